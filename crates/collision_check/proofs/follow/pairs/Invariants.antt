use Rattle.collision_check.proofs.Meeting.{IsMet}
use Rattle.collision_check.proofs.follow.pairs.Given as goal

abbrev pub invariant-loop-candidate : goal.invariant-loop-candidate
invariant-loop-candidate l = IsMet l.table l.entry l.candidate-iterator l.pairs.items l.marks
