use Rattle.std.proofs.Common.{◌≡◌, length, ap, ◌∙◌, arith}
use Rattle.edi_tables.specs.Places.{musts_left}
use Rattle.edi_tables.proofs.MissingLaws.{musts_past}
use Rattle.edi_tables.proofs.table.Table.missing_past.Goals as goal

pub returns : goal.returns
returns c =
    let nodes = c.args.self.now in
    let long : c.len.result ≡ length nodes = omega (arith, c.self.inside.nodes.ok.0, ap length c.self.view_is) in
    ap (λ made. musts_left made c.len.result c.from-at.result) (c.deref.ensures.value ∙ c.self.view_is)
    ∙ ap (musts_left nodes c.len.result) c.from-at.ensures
    ∙ musts_past nodes c.len.result c.args.entry c.requires long
