use Rattle.std.proofs.Common.{◌≤◌, length}
use Rattle.contrl_match.proofs.Indexing.{HasGroups}
use Rattle.contrl_match.proofs.head_index.index_groups.Given as goal

abbrev pub invariant-loop-place : goal.invariant-loop-place
invariant-loop-place l = record { within : l.place ≤ length l.groups; found : HasGroups l.map l.groups l.place }

abbrev pub decreases-loop-place : goal.decreases-loop-place
decreases-loop-place l = l.place
