use Rattle.std.proofs.Common.{◌≡◌, take}
use Rattle.edi_tables.specs.Rows.{nodes_from}
use Rattle.edi_tables.proofs.Holding.{HasParents}
use Rattle.edi_tables.proofs.build.nodes_of.Given as goal

abbrev pub invariant-loop-i : goal.invariant-loop-i
invariant-loop-i l = record {
  made : l.nodes.items ≡ nodes_from l.rows 0 (take l.i l.rows);
  parents : HasParents l.rows l.i l.parents;
}
