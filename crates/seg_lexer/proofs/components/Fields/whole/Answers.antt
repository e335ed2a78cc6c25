use Rattle.std.proofs.Common.{◌≡◌, ◌+◌, Some, length, ap, sym, ◌∙◌, rules, arith}
use Rattle.std.specs.Prelude.{map, slice_range}
use Rattle.seg_lexer.specs.Fields.{unplaced}
use Rattle.seg_lexer.specs.Left.{fields_left}
use Rattle.seg_lexer.specs.Place.{rest_of}
use Rattle.seg_lexer.proofs.CountLemmas.{map-unplaced-placed}
use Rattle.seg_lexer.proofs.FieldsLemmas.{fields_of-from}
use Rattle.seg_lexer.proofs.components.Fields.whole.Goals as goal

pub returns-clause-components : goal.returns-clause-components
unfolding fields_left
returns-clause-components g c =
    let f = c.args.self.now in
    let text = g.O.Octets.octets f.text.now in
    let sp = f.separators in
    let part = c.lend-part.result.now in
    let first : f.place ≡ Some (record { at = 0; element = 0; repetition = 1; component = 1 }) = search rules in
    let end : f.start + length part ≡ f.end = omega (arith, c.lend-part.ensures.inside) in
    let segment : slice_range text f.start f.end ≡ part = ap (λ n. slice_range text f.start n) (sym end) ∙ sym c.lend-part.ensures.part in
    map-unplaced-placed f.start (rest_of sp (slice_range text f.start f.end) f.place)
    ∙ ap (λ p. map unplaced (rest_of sp (slice_range text f.start f.end) p)) first
    ∙ ap (λ xs. map unplaced (rest_of sp xs (Some (record { at = 0; element = 0; repetition = 1; component = 1 })))) segment
    ∙ ap (map unplaced) (fields_of-from sp part)
