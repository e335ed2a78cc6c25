use Rattle.std.proofs.Common.{arith}
use Rattle.seq_tree.proofs.Heights.{visits_fit}
use Rattle.seq_tree.proofs.sequence.Seq.before.Goals as goal

pub returns-in-Some-clause-cost : goal.returns-in-Some-clause-cost
returns-in-Some-clause-cost g c b short = grind (arith, visits_fit _ _ b c.before-in-Some.ensures.low)
