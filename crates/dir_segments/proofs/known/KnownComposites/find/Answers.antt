use Rattle.std.proofs.Common.{◌≡◌, Some, None, sym, ◌∙◌}
use Rattle.std.specs.Str.{bytes_eq}
use Rattle.edi_tables.specs.declared.element.CompositeDef.{CompositeDef}
use Rattle.dir_segments.specs.Segments.{known_place}
use Rattle.dir_segments.proofs.KnownLemmas.{find_by_place, find_nowhere, copied_at}
use Rattle.dir_segments.proofs.known.KnownComposites.find.Goals as goal

pub returns-in_err-place : goal.returns-in_err-place
returns-in_err-place c =
    let all = c.args.self.now.composites.now in
    let code = c.args.code.now.octets in
    let none : known_place all code ≡ None = sym (c.args.self.now.first code) ∙ sym c.in_err-place.ensures.value in
    rw c.from_residual.ensures (sym (find_nowhere (λ (k : CompositeDef). bytes_eq k.code.octets code) all none))

pub returns : goal.returns
returns c =
    let all = c.args.self.now.composites.now in
    let code = c.args.code.now.octets in
    let place = c.in_ok-place.place.now in
    let test = λ (k : CompositeDef). bytes_eq k.code.octets code in
    let some : known_place all code ≡ Some place = sym (c.args.self.now.first code) ∙ sym c.in_ok-place.ensures.value in
    copied_at all place c.get-2.result c.get-2.ensures.lookup ∙ find_by_place test all place some
