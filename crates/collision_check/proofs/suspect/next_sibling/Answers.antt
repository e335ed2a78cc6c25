use Rattle.std.proofs.Common.{◌≡◌, sym, arith}
use Rattle.edi_tables.specs.Walk.{end_at}
use Rattle.edi_tables.proofs.NodeReads.{read_node_is}
use Rattle.edi_tables.proofs.PlaceLaws.{along, along_none}
use Rattle.collision_check.proofs.suspect.next_sibling.Goals as goal

pub returns-then-from-bound : goal.returns-then-from-bound
returns-then-from-bound c =
    let is : end_at c.args.table.now c.args.at ≡ c.node.result.now.end = read_node_is 0 (λ n. n.end) c.args.table.now c.args.at c.node.result.now c.node.ensures in
    along c.args.table.now c.args.at c.args.bound c.node.result.now.end c.requires (sym is) (omega (arith, c.if-from-bound.true, c.from.ensures))

pub returns-else-from-bound : goal.returns-else-from-bound
returns-else-from-bound c =
    let is : end_at c.args.table.now c.args.at ≡ c.node.result.now.end = read_node_is 0 (λ n. n.end) c.args.table.now c.args.at c.node.result.now c.node.ensures in
    along_none c.args.table.now c.args.at c.args.bound c.node.result.now.end c.requires (sym is) (omega (arith, c.if-from-bound.false, c.from.ensures))
