use Rattle.std.proofs.Common.{◌<◌, ◌≤◌, arith}
use Rattle.edi_tables.proofs.PlaceLaws.{along, along_none}
use Rattle.edi_tables.proofs.levels.next_sibling.Goals as goal

pub returns-then-from-bound : goal.returns-then-from-bound
returns-then-from-bound c =
    let below : c.end_at-end.result < c.args.bound = omega arith in
    along c.args.nodes.now c.args.at c.args.bound c.end_at-end.result c.requires c.end_at-end.ensures below

pub returns-else-from-bound : goal.returns-else-from-bound
returns-else-from-bound c =
    let past : c.args.bound ≤ c.end_at-end.result = omega arith in
    along_none c.args.nodes.now c.args.at c.args.bound c.end_at-end.result c.requires c.end_at-end.ensures past
