use Rattle.std.proofs.Common.{arith}
use Rattle.edi_tables.proofs.PlaceLaws.{place_small}
use Rattle.edi_tables.proofs.levels.entry_for.Goals as goal

pub overflow_add-result : goal.overflow_add-result
overflow_add-result c = let small = place_small c.args.nodes.now c.args.i c.requires in omega arith
