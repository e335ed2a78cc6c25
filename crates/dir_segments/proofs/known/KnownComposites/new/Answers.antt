use Rattle.std.proofs.Common.{◌≡◌, ◌+◌, Some, None, [], ◌∷◌, ◌++◌, length, take, get_or, cond, sym, ap, ◌∙◌, arith}
use Rattle.std.specs.Str.{bytes_eq}
use Rattle.std.specs.List.{position}
use Rattle.std.specs.Option.{option_or}
use Rattle.std.proofs.lemmas.List.{take_more, length-take}
use Rattle.edi_tables.specs.declared.element.CompositeDef.{CompositeDef}
use Rattle.dir_segments.proofs.KnownLemmas.{position-push}
use Rattle.dir_segments.proofs.known.KnownComposites.new.Goals as goal

pub loop-place-preserved : goal.loop-place-preserved
loop-place-preserved c = λ code.
    let all = c.args.composites.now in
    let place = c.loop-place.place in
    let composite = c.index-composites-place.result in
    let test = λ (k : CompositeDef). bytes_eq k.code.octets code in
    let here : get_or all place composite ≡ composite = sym c.index-composites-place.is in
    let front : take (place + 1) all ≡ take place all ++ composite ∷ [] = take_more all place composite c.loop-place-test.true ∙ ap (λ k. take place all ++ k ∷ []) here in
    let long : length (take place all) ≡ place = omega (arith, length-take place all, c.loop-place-test.true) in
    let more = position-push test (take place all) composite in
    c.in_ok-note_place.ensures code ∙ sym (ap (position test) front ∙ more ∙ ap (λ n. option_or (position test (take place all)) (cond (test composite) (Some n) None)) long ∙ ap (λ o. option_or o (cond (test composite) (Some place) None)) (sym (c.loop-place.invariant code)))
