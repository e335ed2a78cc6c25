use Rattle.std.proofs.Common.{◌≡◌, ℕ, Bool, List, [], ◌++◌, Vec, Global, Ok, Err, subst, refl, sym, ap, ◌∙◌, append_assoc, append-nil}
use Rattle.std.specs.List.{flat_map}
use Rattle.std.proofs.lemmas.Result.{err_from_is_err_and}
use Rattle.edi_tables.specs.declared.element.PartDef.{PartDef}
use Rattle.edi_tables.specs.declared.segment.ItemDef.{ItemDef}
use Rattle.edi_tables.specs.First.{IsVerdict, unless_faulty}
use Rattle.edi_octets.specs.DirStop.{fault_in}
use Rattle.edi_octets.specs.Left.{line_shown, body_left}
use Rattle.edi_octets.specs.Profile.{position_of}
use Rattle.dir_segments.specs.Parts.{Passes, fields_past_position, is_composite_form}
use Rattle.dir_segments.specs.Repetitions.{item_fields, reps_in}
use Rattle.dir_segments.specs.Segments.{item_in, item_end_faults, line_faults, details_of, detail_faults, repeated_parts}
use Rattle.dir_segments.proofs.StopLemmas.{placed, placed_none, placed_value, no_faults, value_given, passed, gives, stops}
use Rattle.dir_segments.proofs.segments.read_whole_item.Goals as goal

pub returns-in_err-position : goal.returns-in_err-position
returns-in_err-position c =
    let err = err_from_is_err_and c.from_residual.result c.from_residual.ensures.1 in
    let known = c.args.known.now.composites.now in
    let line = line_shown c.args.line.now in
    let fields = item_fields (fields_past_position line) in
    let reps = reps_in (fields_past_position line) in
    let details = details_of (body_left c.args.behind) in
    let first = line_faults c.args.before line fields in
    let second = flat_map (detail_faults (is_composite_form fields)) details in
    let third = item_end_faults known line fields (repeated_parts details) in
    rw (err.1, err.2) (stops (placed {A = ItemDef}) (placed {A = ItemDef}) c.in_err-position.field-0.0 [] first (second ++ third) (first ++ (second ++ third)) (position_of line, item_in fields reps) (position_of line, item_in fields reps) refl refl c.in_err-position.ensures)

pub returns-in_err-repeated : goal.returns-in_err-repeated
returns-in_err-repeated c =
    let err = err_from_is_err_and c.from_residual-in_err-repeated.result c.from_residual-in_err-repeated.ensures.1 in
    let known = c.args.known.now.composites.now in
    let line = line_shown c.args.line.now in
    let fields = item_fields (fields_past_position line) in
    let reps = reps_in (fields_past_position line) in
    let details = details_of (body_left c.args.behind) in
    let first = line_faults c.args.before line fields in
    let second = flat_map (detail_faults (is_composite_form fields)) details in
    let third = item_end_faults known line fields (repeated_parts details) in
    let read : ℕ × ItemDef = (c.in_ok-position.position, c.in_ok-position.item) in
    let none = placed_none read first (position_of line) (item_in fields reps) c.in_ok-position.ensures in
    let value = placed_value read first (position_of line) (item_in fields reps) c.in_ok-position.ensures in
    let stop = c.in_err-repeated.field-0.0 in
    let Stops : Bool → Type 0 = λ below. IsVerdict (λ (parts : Vec PartDef Global). parts.items) fault_in (Err stop) (unless_faulty (flat_map (detail_faults below) details) (repeated_parts details)) in
    let given : Stops (is_composite_form fields) = subst Stops (c.is_composite_item.ensures fields reps value.1) c.in_err-repeated.ensures in
    rw (err.1, err.2) (stops (λ (parts : Vec PartDef Global). parts.items) (placed {A = ItemDef}) stop first second third (first ++ (second ++ third)) (repeated_parts details) (position_of line, item_in fields reps) none refl given)

pub returns-in_err-judge_end : goal.returns-in_err-judge_end
returns-in_err-judge_end c =
    let err = err_from_is_err_and c.from_residual-in_err-judge_end.result c.from_residual-in_err-judge_end.ensures.1 in
    let known = c.args.known.now.composites.now in
    let line = line_shown c.args.line.now in
    let fields = item_fields (fields_past_position line) in
    let reps = reps_in (fields_past_position line) in
    let details = details_of (body_left c.args.behind) in
    let first = line_faults c.args.before line fields in
    let second = flat_map (detail_faults (is_composite_form fields)) details in
    let third = item_end_faults known line fields (repeated_parts details) in
    let read : ℕ × ItemDef = (c.in_ok-position.position, c.in_ok-position.item) in
    let none = placed_none read first (position_of line) (item_in fields reps) c.in_ok-position.ensures in
    let value = placed_value read first (position_of line) (item_in fields reps) c.in_ok-position.ensures in
    let items = λ (parts : Vec PartDef Global). parts.items in
    let repeated = c.in_ok-repeated.repeated in
    let Read : Bool → Type 0 = λ below. IsVerdict items fault_in (Ok repeated) (unless_faulty (flat_map (detail_faults below) details) (repeated_parts details)) in
    let whole : Read (is_composite_form fields) = subst Read (c.is_composite_item.ensures fields reps value.1) c.in_ok-repeated.ensures in
    let second_none = no_faults items repeated second (repeated_parts details) whole in
    let parts = value_given items repeated second (repeated_parts details) whole in
    let same : c.deref.result.now ≡ repeated_parts details = c.deref.ensures.value ∙ sym parts in
    let stop = c.in_err-judge_end.field-0.0 in
    let Stops : List PartDef → Type 0 = λ repeats. Passes {A = Unit {0}} (Err stop) (item_end_faults known line fields repeats) in
    let given : Stops (repeated_parts details) = subst Stops same (c.in_err-judge_end.ensures fields reps value.1) in
    let before : first ++ second ≡ [] = rw (none, second_none) refl in
    let split : first ++ (second ++ third) ≡ (first ++ second) ++ (third ++ []) = sym (append_assoc first second third) ∙ ap (λ l. (first ++ second) ++ l) (sym (append-nil third)) in
    rw (err.1, err.2) (stops {Y = Unit {0}} (λ (done : Unit {0}). tt) (placed {A = ItemDef}) stop (first ++ second) third [] (first ++ (second ++ third)) tt (position_of line, item_in fields reps) before split given)

pub returns : goal.returns
returns c =
    let known = c.args.known.now.composites.now in
    let line = line_shown c.args.line.now in
    let fields = item_fields (fields_past_position line) in
    let reps = reps_in (fields_past_position line) in
    let details = details_of (body_left c.args.behind) in
    let first = line_faults c.args.before line fields in
    let second = flat_map (detail_faults (is_composite_form fields)) details in
    let third = item_end_faults known line fields (repeated_parts details) in
    let read : ℕ × ItemDef = (c.in_ok-position.position, c.in_ok-position.item) in
    let none = placed_none read first (position_of line) (item_in fields reps) c.in_ok-position.ensures in
    let value = placed_value read first (position_of line) (item_in fields reps) c.in_ok-position.ensures in
    let items = λ (parts : Vec PartDef Global). parts.items in
    let repeated = c.in_ok-repeated.repeated in
    let Read : Bool → Type 0 = λ below. IsVerdict items fault_in (Ok repeated) (unless_faulty (flat_map (detail_faults below) details) (repeated_parts details)) in
    let whole : Read (is_composite_form fields) = subst Read (c.is_composite_item.ensures fields reps value.1) c.in_ok-repeated.ensures in
    let second_none = no_faults items repeated second (repeated_parts details) whole in
    let parts = value_given items repeated second (repeated_parts details) whole in
    let same : c.deref.result.now ≡ repeated_parts details = c.deref.ensures.value ∙ sym parts in
    let third_none : third ≡ [] = ap (item_end_faults known line fields) (sym same) ∙ passed c.in_ok-judge_end.field-0 (item_end_faults known line fields c.deref.result.now) (c.in_ok-judge_end.ensures fields reps value.1) in
    let all_none : first ++ (second ++ third) ≡ [] = rw (none, second_none, third_none) refl in
    let given : (position_of line, item_in fields reps) ≡ placed read = value_given placed read first (position_of line, item_in fields reps) c.in_ok-position.ensures in
    gives placed read (first ++ (second ++ third)) (position_of line, item_in fields reps) all_none given
