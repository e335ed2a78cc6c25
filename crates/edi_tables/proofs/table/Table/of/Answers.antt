use Rattle.std.proofs.Common.{sym, subst}
use Rattle.edi_tables.specs.Rows.{IsTable}
use Rattle.edi_tables.proofs.Restored.{table_of_rows}
use Rattle.edi_tables.proofs.table.Table.of.Goals as goal

pub invariant_of-result : goal.invariant_of-result
invariant_of-result c =
    subst IsTable (sym c.in_ok-nodes_of.ensures) (table_of_rows c.args.rows.now c.requires)
