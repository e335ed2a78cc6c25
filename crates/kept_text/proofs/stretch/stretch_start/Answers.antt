use Rattle.std.proofs.Common.{arith}
use Rattle.kept_text.proofs.Locating.{octets_with}
use Rattle.kept_text.proofs.stretch.stretch_start.Goals as goal

pub returns-clause-last : goal.returns-clause-last
returns-clause-last c within body =
    let located = c.locate-located.result in
    let with = octets_with c.args.records.now located.place located.item.now c.locate-located.ensures.is in
    omega arith
