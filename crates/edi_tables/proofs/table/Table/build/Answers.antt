use Rattle.std.proofs.Common.{sym, subst, ◌∙◌}
use Rattle.edi_tables.specs.Rows.{IsTable}
use Rattle.edi_tables.proofs.Faults.{first_of_nil}
use Rattle.edi_tables.proofs.Restored.{table_of_rows}
use Rattle.edi_tables.proofs.table.Table.build.Goals as goal

pub nodes_of-requires : goal.nodes_of-requires
nodes_of-requires c = first_of_nil _ (sym c.first_fault.ensures ∙ c.in_default.is)

pub invariant_of-result : goal.invariant_of-result
invariant_of-result c =
    subst IsTable (sym c.in_ok-nodes_of.ensures) (table_of_rows c.args.rows.now (first_of_nil _ (sym c.first_fault.ensures ∙ c.in_default.is)))
