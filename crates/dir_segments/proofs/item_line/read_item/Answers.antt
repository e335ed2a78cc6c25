use Rattle.std.proofs.Common.{◌≡◌, ℕ, true, false, List, Some, sym, ap, subst, ◌∙◌}
use Rattle.std.proofs.lemmas.Result.{err_from_is_err_and}
use Rattle.edi_tables.specs.declared.element.PartDef.{PartDef}
use Rattle.edi_tables.specs.declared.segment.ItemDef.{ItemDef}
use Rattle.edi_tables.specs.declared.segment.ItemDef.TheVariants.{Alone}
use Rattle.edi_octets.specs.Left.{line_shown}
use Rattle.edi_octets.specs.Profile.{position_of}
use Rattle.dir_segments.specs.Parts.{is_placed, fields_past_position, is_element_form, is_composite_form, part_with, status_fault, element_fault, fault_list}
use Rattle.dir_segments.specs.Repetitions.{item_fields, reps_in, IsElementItem, IsCompositeItem}
use Rattle.dir_segments.specs.Segments.{line_faults, item_in, alone_item, composite_item}
use Rattle.dir_segments.proofs.FieldLemmas.{some_where}
use Rattle.dir_segments.proofs.ItemLemmas.{element_line-faults, composite_line-faults, element_line-item, composite_line-item, placed_item}
use Rattle.dir_segments.proofs.StopLemmas.{placed, stops_same, no_faults, value_given, gives}
use Rattle.dir_segments.proofs.item_line.read_item.Goals as goal

pub returns-in_err-part : goal.returns-in_err-part
returns-in_err-part c =
    let err = err_from_is_err_and c.from_residual.result c.from_residual.ensures.1 in
    let line = line_shown c.args.line.now in
    let position = some_where (is_placed line) (position_of line) c.in-Some.position c.in-Some.ensures in
    let item = c.in-Some-read_element_item.item in
    let fields = fields_past_position line in
    let Read : List (List ℕ) → Type 0 = λ behind. (is_element_form (item_fields behind) ≡ true) × IsElementItem item behind in
    let read : Read fields = subst Read c.fields_past_position-fields.ensures c.in-Some-read_element_item.ensures in
    rw (err.1, err.2) (stops_same (λ (part : PartDef). Some part) (placed {A = ItemDef}) c.in_err-part.field-0.0 (fault_list line (element_fault c.args.before line item.element.must item.element.repr)) (line_faults c.args.before line (item_fields fields)) (part_with item.element.code item.element.must item.element.repr) (position_of line, item_in (item_fields fields) (reps_in fields)) (element_line-faults c.args.before line fields position.0 item read) c.in_err-part.ensures)

pub returns-in-Some-read_element_item : goal.returns-in-Some-read_element_item
returns-in-Some-read_element_item c =
    let line = line_shown c.args.line.now in
    let position = some_where (is_placed line) (position_of line) c.in-Some.position c.in-Some.ensures in
    let item = c.in-Some-read_element_item.item in
    let fields = fields_past_position line in
    let Read : List (List ℕ) → Type 0 = λ behind. (is_element_form (item_fields behind) ≡ true) × IsElementItem item behind in
    let read : Read fields = subst Read c.fields_past_position-fields.ensures c.in-Some-read_element_item.ensures in
    let faults = fault_list line (element_fault c.args.before line item.element.must item.element.repr) in
    let due = part_with item.element.code item.element.must item.element.repr in
    let some = λ (part : PartDef). Some part in
    let part = c.in_ok-part.part in
    let none = no_faults some part faults due c.in_ok-part.ensures in
    let value : due ≡ Some part = value_given some part faults due c.in_ok-part.ensures in
    let found : ItemDef = Alone part item.reps in
    let given : item_in (item_fields fields) (reps_in fields) ≡ Some found = element_line-item fields item read ∙ ap (λ o. alone_item o item.reps) value in
    gives (placed {A = ItemDef}) (c.in-Some.position, found) (line_faults c.args.before line (item_fields fields)) (position_of line, item_in (item_fields fields) (reps_in fields)) (element_line-faults c.args.before line fields position.0 item read ∙ none) (placed_item c.in-Some.position (position_of line) (item_in (item_fields fields) (reps_in fields)) found position.1 given)

pub judge_composite-requires : goal.judge_composite-requires
judge_composite-requires c =
    let line = line_shown c.args.line.now in
    (some_where (is_placed line) (position_of line) c.in-Some.position c.in-Some.ensures).1

pub returns-in_err-item : goal.returns-in_err-item
returns-in_err-item c =
    let err = err_from_is_err_and c.from_residual-in_err-item.result c.from_residual-in_err-item.ensures.1 in
    let line = line_shown c.args.line.now in
    let position = some_where (is_placed line) (position_of line) c.in-Some.position c.in-Some.ensures in
    let item = c.in-Some-read_composite_item.composite in
    let fields = fields_past_position line in
    let same = c.fields_past_position-fields.ensures in
    let other : is_element_form (item_fields fields) ≡ false = ap (λ behind. is_element_form (item_fields behind)) (sym same) ∙ c.in_default-read_element_item.ensures in
    let Read : List (List ℕ) → Type 0 = λ behind. (is_composite_form (item_fields behind) ≡ true) × IsCompositeItem item behind in
    let read : Read fields = subst Read same c.in-Some-read_composite_item.ensures in
    rw (err.1, err.2) (stops_same (λ (item : ItemDef). Some item) (placed {A = ItemDef}) c.in_err-item.field-0.0 (fault_list line (status_fault c.args.before line item.must)) (line_faults c.args.before line (item_fields fields)) (composite_item item.code item.must item.reps) (position_of line, item_in (item_fields fields) (reps_in fields)) (composite_line-faults c.args.before line fields position.0 item other read) c.in_err-item.ensures)

pub returns : goal.returns
returns c =
    let line = line_shown c.args.line.now in
    let position = some_where (is_placed line) (position_of line) c.in-Some.position c.in-Some.ensures in
    let item = c.in-Some-read_composite_item.composite in
    let fields = fields_past_position line in
    let same = c.fields_past_position-fields.ensures in
    let other : is_element_form (item_fields fields) ≡ false = ap (λ behind. is_element_form (item_fields behind)) (sym same) ∙ c.in_default-read_element_item.ensures in
    let Read : List (List ℕ) → Type 0 = λ behind. (is_composite_form (item_fields behind) ≡ true) × IsCompositeItem item behind in
    let read : Read fields = subst Read same c.in-Some-read_composite_item.ensures in
    let faults = fault_list line (status_fault c.args.before line item.must) in
    let due = composite_item item.code item.must item.reps in
    let some = λ (item : ItemDef). Some item in
    let found = c.in_ok-item.item in
    let none = no_faults some found faults due c.in_ok-item.ensures in
    let value : due ≡ Some found = value_given some found faults due c.in_ok-item.ensures in
    gives (placed {A = ItemDef}) (c.in-Some.position, found) (line_faults c.args.before line (item_fields fields)) (position_of line, item_in (item_fields fields) (reps_in fields)) (composite_line-faults c.args.before line fields position.0 item other read ∙ none) (placed_item c.in-Some.position (position_of line) (item_in (item_fields fields) (reps_in fields)) found position.1 (composite_line-item fields item read ∙ value))
