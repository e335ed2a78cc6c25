use Rattle.std.proofs.Common.{arith}
use Rattle.std.proofs.lemmas.Option.{slice_get_within}
use Rattle.kept_text.proofs.Locating.{none_end, octets_with}
use Rattle.kept_text.proofs.stretch.record_after.Goals as goal

pub returns-then-located-octets-clause-none : goal.returns-then-located-octets-clause-none
returns-then-located-octets-clause-none c j there =
    let located = c.locate-located.result in
    none_end c.args.records.now located.place located.item.now located.offset _ j
    c.locate-located.ensures.is c.locate-located.ensures.offset (omega arith) (omega (arith, there.ends))

pub returns-clause-after : goal.returns-clause-after
returns-clause-after c =
    let located = c.locate-located.result in
    let is = c.locate-located.ensures.is in
    let with = octets_with c.args.records.now located.place located.item.now is in
    let within = slice_get_within c.args.records.now located.place located.item.now is in
    record { within = omega arith; after = omega arith; behind = omega arith; ends = omega arith }
