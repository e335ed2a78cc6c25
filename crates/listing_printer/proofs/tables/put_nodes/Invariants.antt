use Rattle.std.proofs.Common.{◌≡◌, ◌++◌, drop}
use Rattle.listing_printer.specs.Tables.{node_lines_from}
use Rattle.listing_printer.proofs.tables.put_nodes.Given as goal

abbrev pub invariant-loop-i : goal.invariant-loop-i
invariant-loop-i l = l.out ++ node_lines_from l.i (drop l.i l.rows) ≡ l.fn.out ++ node_lines_from 0 l.rows
