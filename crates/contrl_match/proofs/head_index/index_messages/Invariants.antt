use Rattle.std.proofs.Common.{◌≤◌, length}
use Rattle.contrl_match.proofs.Indexing.{HasMessages}
use Rattle.contrl_match.proofs.head_index.index_messages.Given as goal

abbrev pub invariant-loop-place : goal.invariant-loop-place
invariant-loop-place l = record { within : l.place ≤ length l.messages; found : HasMessages l.map l.messages l.place }

abbrev pub decreases-loop-place : goal.decreases-loop-place
decreases-loop-place l = l.place
