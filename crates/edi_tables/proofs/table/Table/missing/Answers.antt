use Rattle.std.proofs.Common.{ap, ◌∙◌}
use Rattle.edi_tables.specs.Places.{musts_left}
use Rattle.edi_tables.proofs.MissingLaws.{musts_between}
use Rattle.edi_tables.proofs.table.Table.missing.Goals as goal

pub returns : goal.returns
returns c =
    let nodes = c.args.self.now in
    ap (λ made. musts_left made c.from.result c.from-at.result) (c.deref.ensures.value ∙ c.self.view_is)
    ∙ ap (musts_left nodes c.from.result) c.from-at.ensures
    ∙ musts_between nodes c.from.result c.args.entry c.args.candidate (c.from.ensures ∙ c.reached.ensures)
