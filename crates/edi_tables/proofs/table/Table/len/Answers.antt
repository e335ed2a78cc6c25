use Rattle.std.proofs.Common.{subst, arith}
use Rattle.edi_tables.specs.Rows.{IsTable}
use Rattle.edi_tables.proofs.TableLaws.{table_laws}
use Rattle.edi_tables.proofs.table.Table.len.Goals as goal

pub returns-clause-some : goal.returns-clause-some
returns-clause-some c =
    omega (arith, c.self.inside.nodes.ok.0, (table_laws c.self.inside.nodes.items c.self.invariant).some)

pub returns-clause-small : goal.returns-clause-small
returns-clause-small c =
    omega (arith, c.self.inside.nodes.ok.0, (table_laws c.self.inside.nodes.items c.self.invariant).small)

pub returns-clause-lawful : goal.returns-clause-lawful
returns-clause-lawful c = subst IsTable c.self.view_is c.self.invariant
