use Rattle.std.proofs.Common.{length}
use Rattle.dir_messages.proofs.StatusLemmas.{HasFront}
use Rattle.dir_messages.proofs.status.cut_at_status.Given as goal

abbrev pub invariant-loop-before : goal.invariant-loop-before
invariant-loop-before l = HasFront l.text l.front

abbrev pub decreases-loop-before : goal.decreases-loop-before
decreases-loop-before l = length l.front
