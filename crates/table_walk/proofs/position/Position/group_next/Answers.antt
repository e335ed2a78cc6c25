use Rattle.std.proofs.Common.{arith}
use Rattle.edi_tables.proofs.TableLaws.{table_laws}
use Rattle.table_walk.proofs.PairReads.{count_up_to}
use Rattle.table_walk.proofs.position.Position.group_next.Goals as goal

pub overflow_add-group : goal.overflow_add-group
overflow_add-group c = omega (arith, c.requires.within, (table_laws c.args.self.now.table.now c.args.self.now.lawful).small)

pub overflow_add-result : goal.overflow_add-result
overflow_add-result c = omega (arith, c.count_of-count.ensures, count_up_to 4194303 c.args.self.now.pairs.now c.args.group c.requires.few)
