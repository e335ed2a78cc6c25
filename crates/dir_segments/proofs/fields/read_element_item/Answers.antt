use Rattle.std.proofs.Common.{◌≡◌, ◌∙◌, sym, true, false, nat_le, length}
use Rattle.edi_octets.specs.Left.{cells_left}
use Rattle.dir_segments.specs.Parts.{field_from_end, is_element_form}
use Rattle.dir_segments.specs.Repetitions.{is_repetition_number, item_fields}
use Rattle.dir_segments.proofs.RepetitionLemmas.{is_element_form-item, element_with_number, element_without_number, too_few, no_number}
use Rattle.dir_segments.proofs.fields.read_element_item.Goals as goal

pub returns-in_err-element : goal.returns-in_err-element
returns-in_err-element c =
    let fields = cells_left c.args.fields in
    let none : is_element_form (item_fields fields) ≡ false = is_element_form-item fields ∙ c.in_err-element.ensures in
    rw c.from_residual.ensures none

pub returns-in-Some : goal.returns-in-Some
returns-in-Some c =
    let fields = cells_left c.args.fields in
    let element = c.in_ok-element.element in
    let read = c.in_ok-element.ensures.1 in
    let many : nat_le 5 (length fields) ≡ true = sym c.has_fifth.ensures ∙ c.if-has_fifth.true in
    element_with_number (record { element = record { code = element.code; must = c.read_status.result; repr = element.repr }; reps = c.in-Some.reps }) fields c.last_three.result.1.now c.last_three.result.0.now c.in_ok-element.ensures.0 many c.last_three.ensures.before c.last_three.ensures.third c.in-Some.ensures read.code c.read_status.ensures read.repr

pub returns-in_default : goal.returns-in_default
returns-in_default c =
    let fields = cells_left c.args.fields in
    let none = too_few (nat_le 5 (length fields)) (is_repetition_number (field_from_end 2 fields)) (sym c.has_fifth.ensures ∙ c.if-has_fifth.false) in
    element_without_number c.in_ok-element.element fields c.in_ok-element.ensures.0 c.in_ok-element.ensures.1 none

pub returns-in_default-2 : goal.returns-in_default-2
returns-in_default-2 c =
    let fields = cells_left c.args.fields in
    let none = no_number (nat_le 5 (length fields)) c.last_three.result.1.now (field_from_end 2 fields) c.last_three.ensures.before c.in_default.ensures in
    element_without_number c.in_ok-element.element fields c.in_ok-element.ensures.0 c.in_ok-element.ensures.1 none
