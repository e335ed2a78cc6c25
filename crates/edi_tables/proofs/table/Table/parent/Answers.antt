use Rattle.std.proofs.Common.{subst}
use Rattle.edi_tables.specs.Rows.{IsTable}
use Rattle.edi_tables.proofs.table.Table.parent.Goals as goal

pub returns-clause-lawful : goal.returns-clause-lawful
returns-clause-lawful c = subst IsTable c.self.view_is c.self.invariant
