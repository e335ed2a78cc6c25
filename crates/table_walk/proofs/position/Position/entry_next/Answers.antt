use Rattle.std.proofs.Common.{arith}
use Rattle.table_walk.proofs.PairReads.{count_up_to}
use Rattle.table_walk.proofs.position.Position.entry_next.Goals as goal

pub overflow_add-result : goal.overflow_add-result
overflow_add-result c = omega (arith, c.count_of.ensures, count_up_to 4194303 c.args.self.now.pairs.now c.args.candidate c.requires.few)
