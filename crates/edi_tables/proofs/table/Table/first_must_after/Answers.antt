use Rattle.edi_tables.proofs.MissingLaws.{first_must}
use Rattle.edi_tables.proofs.table.Table.first_must_after.Goals as goal

pub returns : goal.returns
returns c = first_must c.args.self.now c.args.entry c.missing_past.result _ c.next.result c.missing_past.ensures c.next.ensures.steps
