-- Items of an entry's lines, and their detail lines.
use Rattle.std.proofs.Common.{◌≡◌, ℕ, Bool, true, false, not, List, [], ◌∷◌, ◌++◌, filter, Some, Err, refl, ap, ◌∙◌, sym, append-nil}
use Rattle.std.specs.Prelude.{Option}
use Rattle.std.specs.List.{flat_map, filter_map}
use Rattle.std.proofs.lemmas.List.Concat.{flat_map-append}
use Rattle.std.proofs.lemmas.List.Elements.{filter-append, filter_map-append}
use Rattle.std.proofs.lemmas.List.Sums.{take_while-cons}
use Rattle.edi_tables.specs.declared.element.Code.{Code}
use Rattle.edi_tables.specs.declared.element.PartDef.{PartDef}
use Rattle.edi_tables.specs.declared.segment.ItemDef.{ItemDef}
use Rattle.dir_segments.specs.declared.fields.ElementFields.{ElementFields}
use Rattle.dir_segments.specs.declared.fields.ElementItem.{ElementItem}
use Rattle.dir_segments.specs.declared.fields.CompositeItem.{CompositeItem}
use Rattle.dir_segments.specs.Repetitions.{item_fields, reps_in, IsElementItem, IsCompositeItem}
use Rattle.edi_octets.specs.declared.fault.DirStop.{DirStop}
use Rattle.edi_tables.specs.First.{IsVerdict, unless_faulty}
use Rattle.edi_octets.specs.DirStop.{fault_in}
use Rattle.edi_octets.specs.Lines.{Line}
use Rattle.edi_octets.specs.Profile.{fields_of, first_field}
use Rattle.dir_segments.specs.Parts.{is_item_line, part_in, is_placed, is_element_form, is_composite_form, element_status, element_repr, composite_status, status_fault, element_fault, fault_list, part_with, IsElement}
use Rattle.dir_segments.specs.Segments.{item_at, items_of, details_of, is_part_line, detail_faults, repeated_parts, line_faults, item_in, alone_item, composite_item}
use Rattle.dir_segments.proofs.FieldLemmas.{is_composite_form-element}
use Rattle.dir_segments.proofs.StopLemmas.{placed, stops}
use Rattle.dir_segments.proofs.FrontLemmas.{goes_on, goes_at}

pub items_of-item : (line : Line) (lines : List Line) → is_item_line line ≡ true → items_of (line ∷ lines) ≡ item_at line lines ∷ items_of lines
items_of-item line lines item = rw item refl

pub details_of-detail : (line : Line) (lines : List Line) → is_item_line line ≡ false → details_of (line ∷ lines) ≡ line ∷ details_of lines
details_of-detail line lines detail =
    take_while-cons (λ l. not (is_item_line l)) line lines ∙ rw detail refl

pub repeated_parts-part : (front : List Line) (line : Line) (part : PartDef) → is_part_line line ≡ true → part_in (fields_of line.octets) ≡ Some part → repeated_parts (front ++ line ∷ []) ≡ repeated_parts front ++ part ∷ []
repeated_parts-part front line part is found =
    ap (filter_map (λ l. part_in (fields_of l.octets))) (filter-append is_part_line front (line ∷ [])) ∙ filter_map-append (λ l. part_in (fields_of l.octets)) (filter is_part_line front) (filter is_part_line (line ∷ [])) ∙ rw (is, found) refl

pub repeated_parts-text : (front : List Line) (line : Line) → is_part_line line ≡ false → repeated_parts (front ++ line ∷ []) ≡ repeated_parts front
repeated_parts-text front line text =
    ap (filter_map (λ l. part_in (fields_of l.octets))) (filter-append is_part_line front (line ∷ [])) ∙ rw (text, append-nil) refl

module _ (below_composite : Bool) where
  -- a front of an item's detail lines has been read, in which nothing is broken: the parts that it repeats
  pub record AreDetails (all rest : List Line) (parts : List PartDef) : Type 0 where
    pub front : List Line
    pub splits : all ≡ front ++ rest
    pub clean : flat_map (detail_faults below_composite) front ≡ []
    pub found : parts ≡ repeated_parts front

  clean-push : (front : List Line) (line : Line) → flat_map (detail_faults below_composite) front ≡ [] → detail_faults below_composite line ≡ [] → flat_map (detail_faults below_composite) (front ++ line ∷ []) ≡ []
  clean-push front line clean none =
      flat_map-append (detail_faults below_composite) front (line ∷ []) ∙ rw (clean, append-nil) none

  -- text has come
  pub details_text : (all rest : List Line) (line : Line) (later : List Line) (parts : List PartDef) → AreDetails all rest parts → rest ≡ line ∷ later → is_part_line line ≡ false → AreDetails all later parts
  details_text all rest line later parts read here text =
      let none : detail_faults below_composite line ≡ [] = rw text refl in
      record {
        front = read.front ++ line ∷ [];
        splits = goes_on all read.front line rest later read.splits here;
        clean = clean-push read.front line read.clean none;
        found = read.found ∙ sym (repeated_parts-text read.front line text);
      }

  -- a part line has come
  pub details_part : (all rest : List Line) (line : Line) (later : List Line) (parts : List PartDef) (part : PartDef) → AreDetails all rest parts → rest ≡ line ∷ later → is_part_line line ≡ true → detail_faults below_composite line ≡ [] → part_in (fields_of line.octets) ≡ Some part → AreDetails all later (parts ++ part ∷ [])
  details_part all rest line later parts part read here is none found =
      record {
        front = read.front ++ line ∷ [];
        splits = goes_on all read.front line rest later read.splits here;
        clean = clean-push read.front line read.clean none;
        found = ap (λ l. l ++ part ∷ []) read.found ∙ sym (repeated_parts-part read.front line part is found);
      }

  -- a line has come, and stops
  pub details_stop : {X Y X' Y' : Type 0} (view : X → Y) (outer : X' → Y') (stop : DirStop) (all rest : List Line) (line : Line) (later : List Line) (parts : List PartDef) (v : Y) (w : Y') → AreDetails all rest parts → rest ≡ line ∷ later → IsVerdict view fault_in (Err stop) (unless_faulty (detail_faults below_composite line) v) → IsVerdict outer fault_in (Err stop) (unless_faulty (flat_map (detail_faults below_composite) all) w)
  details_stop view outer stop all rest line later parts v w read here given =
      let judge = detail_faults below_composite in
      let is : flat_map judge all ≡ flat_map judge read.front ++ (judge line ++ flat_map judge later) =
      ap (flat_map judge) (goes_at all read.front line rest later read.splits here) ∙ flat_map-append judge read.front (line ∷ later) in
      stops view outer stop (flat_map judge read.front) (judge line) (flat_map judge later) (flat_map judge all) v w read.clean is given

line_faults-element : (before : Option ℕ) (line : Line) (fields : List (List ℕ)) → is_placed line ≡ true → is_element_form fields ≡ true → line_faults before line fields ≡ fault_list line (element_fault before line (element_status fields) (element_repr fields))
line_faults-element before line fields position form = rw (position, form) refl

line_faults-composite : (before : Option ℕ) (line : Line) (fields : List (List ℕ)) → is_placed line ≡ true → is_element_form fields ≡ false → is_composite_form fields ≡ true → line_faults before line fields ≡ fault_list line (status_fault before line (composite_status fields))
line_faults-composite before line fields position other form = rw (position, other, form) refl

abbrev code_of : List ℕ → Code
code_of octets = record { octets = octets }

-- the part of a data element's fields, by what was read of them
part_in-read : (element : ElementFields) (fields : List (List ℕ)) → is_element_form fields ≡ true → IsElement element fields → part_in fields ≡ part_with element.code element.must element.repr
part_in-read element fields form read =
    let code : code_of (first_field fields) ≡ element.code = ap code_of (sym read.code) in
    rw form (rw (code, sym read.must, sym read.repr) refl)

-- what is after the position of a line was read
module _ (before : Option ℕ) (line : Line) (fields : List (List ℕ)) (at_position : is_placed line ≡ true) where
  pub element_line-faults : (item : ElementItem) → (is_element_form (item_fields fields) ≡ true) × IsElementItem item fields → line_faults before line (item_fields fields) ≡ fault_list line (element_fault before line item.element.must item.element.repr)
  element_line-faults item read =
      line_faults-element before line (item_fields fields) at_position read.0 ∙ rw (sym read.1.element.must, sym read.1.element.repr) refl

  pub composite_line-faults : (item : CompositeItem) → is_element_form (item_fields fields) ≡ false → (is_composite_form (item_fields fields) ≡ true) × IsCompositeItem item fields → line_faults before line (item_fields fields) ≡ fault_list line (status_fault before line item.must)
  composite_line-faults item other read =
      line_faults-composite before line (item_fields fields) at_position other read.0 ∙ rw (sym read.1.must) refl

pub element_line-item : (fields : List (List ℕ)) (item : ElementItem) → (is_element_form (item_fields fields) ≡ true) × IsElementItem item fields → item_in (item_fields fields) (reps_in fields) ≡ alone_item (part_with item.element.code item.element.must item.element.repr) item.reps
element_line-item fields item read =
    rw (is_composite_form-element (item_fields fields) read.0, part_in-read item.element (item_fields fields) read.0 read.1.element, sym read.1.reps) refl

pub composite_line-item : (fields : List (List ℕ)) (item : CompositeItem) → (is_composite_form (item_fields fields) ≡ true) × IsCompositeItem item fields → item_in (item_fields fields) (reps_in fields) ≡ composite_item item.code item.must item.reps
composite_line-item fields item read =
    let code : code_of (first_field (item_fields fields)) ≡ item.code = ap code_of (sym read.1.code) in
    rw read.0 (rw (code, sym read.1.must, sym read.1.reps) refl)

-- a place and an item
pub placed_item : (position at : ℕ) (found : Option ItemDef) (item : ItemDef) → position ≡ at → found ≡ Some item → (at, found) ≡ placed (position, item)
placed_item position at found item same is = rw (is, same) refl
