-- What segment files give is formed.
use Rattle.std.proofs.Common.{◌≡◌, ◌<◌, ℕ, Bool, true, false, not, nat_le, if◌then◌else◌, Option, Some, None, is_some, Ok, List, [], ◌∷◌, ◌++◌, length, get_or, map, refl, sym, ap, ◌∙◌, ⊎_elim}
use Rattle.std.specs.List.{All, list_all, flat_map}
use Rattle.std.proofs.lemmas.Bool.{cases_Bool, and_parts}
use Rattle.std.proofs.lemmas.List.Elements.{All-cons, All-map}
use Rattle.std.proofs.lemmas.List.Sums.{list_all-from_AllPass}
use Rattle.edi_tables.specs.declared.element.Code.{Code}
use Rattle.edi_tables.specs.declared.element.PartDef.{PartDef}
use Rattle.edi_tables.specs.declared.element.CompositeDef.{CompositeDef}
use Rattle.edi_tables.specs.declared.segment.SegmentDef.{SegmentDef}
use Rattle.edi_tables.specs.Tag.{is_tag_of}
use Rattle.edi_tables.specs.Forms.{is_composite_code, is_count_formed, is_part_formed, is_reps_formed, is_item_formed, is_segment_formed}
use Rattle.edi_octets.specs.declared.fault.DirKind.TheVariants.{BadLine}
use Rattle.edi_octets.specs.Lines.{Line, lines_of}
use Rattle.edi_octets.specs.Profile.{first_field, entries_of, with_earlier, position_of, is_greater}
use Rattle.edi_octets.specs.Head.{head_faults}
use Rattle.edi_octets.proofs.AnswerLemmas.{none_from_ok}
use Rattle.edi_octets.proofs.EachLemmas.{passes_if_made, nothing-append, All-none, All-each, passes-filter_map, length-filter_map, All-judged}
use Rattle.edi_octets.proofs.HeadLemmas.{head_faults-code}
use Rattle.edi_octets.proofs.PlainLemmas.{IsEntry, entries_of-entries}
use Rattle.dir_segments.specs.Parts.{is_item_line, fields_past_position, last_of, is_placed, is_element_form, is_composite_form, element_status, element_repr, composite_status, element_fault, status_fault, part_in, count_faults}
use Rattle.dir_segments.specs.Segments.{Item, item_position, item_at, items_of, items_in, item_in, item_of, alone_item, composite_item, line_faults, detail_faults, item_end_faults, repeated_parts, item_faults, items_faults, segment_faults, segment_of, segments_in_file}
use Rattle.dir_segments.proofs.RepetitionLemmas.{reps_in-formed}
use Rattle.dir_segments.proofs.FieldLemmas.{is_composite_form-element}
use Rattle.dir_segments.proofs.StopLemmas.{none_listed}
use Rattle.dir_segments.proofs.CompositeForms.{composite_rules, part_in-formed, first_rule, part_in-made, counted}

-- ---- items

composite_item-formed : (code : Code) (status : Option Bool) (reps : ℕ) → is_composite_code code.octets ≡ true → is_reps_formed reps ≡ true → passes_if_made is_item_formed (composite_item code status reps) ≡ true
composite_item-formed code None reps coded many = refl
composite_item-formed code (Some must) reps coded many = rw (coded, many) refl

alone_item-formed : (part : Option PartDef) (reps : ℕ) → passes_if_made is_part_formed part ≡ true → is_reps_formed reps ≡ true → passes_if_made is_item_formed (alone_item part reps) ≡ true
alone_item-formed None reps is many = refl
alone_item-formed (Some part) reps is many = rw (is, many) refl

item_in-formed : (fields : List (List ℕ)) (reps : ℕ) → is_reps_formed reps ≡ true → passes_if_made is_item_formed (item_in fields reps) ≡ true
item_in-formed fields reps many =
    ⊎_elim
    (λ (form : is_composite_form fields ≡ true). rw form (composite_item-formed (record { octets = first_field fields }) (composite_status fields) reps (and_parts (is_composite_code (first_field fields)) (nat_le 3 (length fields)) form).0 many))
    (λ (none : is_composite_form fields ≡ false). rw none (alone_item-formed (part_in fields) reps (part_in-formed fields) many))
    (cases_Bool (is_composite_form fields))

alone_item-made : (part : Option PartDef) (reps : ℕ) → is_some part ≡ true → is_some (alone_item part reps) ≡ true
alone_item-made None reps is = cc
alone_item-made (Some part) reps is = refl

status_fault-rules : (before : Option ℕ) (line : Line) (status : Option Bool) → status_fault before line status ≡ composite_rules (is_greater before (position_of line)) status
unfolding composite_rules
status_fault-rules before line status = refl

made-composite : (greater : Bool) (status : Option Bool) (code : Code) (reps : ℕ) → composite_rules greater status ≡ None → is_some (composite_item code status reps) ≡ true
unfolding composite_rules
made-composite true (Some must) code reps none = refl
made-composite true None code reps none = cc
made-composite false status code reps none = cc

-- an item line at which nothing is wrong gives an item
line_faults-made : (before : Option ℕ) (line : Line) (fields : List (List ℕ)) (reps : ℕ) → line_faults before line fields ≡ [] → is_some (item_in fields reps) ≡ true
line_faults-made before line fields reps none =
    let element = element_fault before line (element_status fields) (element_repr fields) in
    let status = status_fault before line (composite_status fields) in
    let composite = if is_composite_form fields then status else Some BadLine in
    let forms = if is_element_form fields then element else composite in
    let rules = first_rule (not (is_placed line)) BadLine forms (none_listed line (if not (is_placed line) then Some BadLine else forms) none) in
    ⊎_elim
    (λ (form : is_element_form fields ≡ true).
    let other : is_composite_form fields ≡ false = is_composite_form-element fields form in
    let sound : element ≡ None = rw form at rules.1 in
    rw other (alone_item-made (part_in fields) reps (part_in-made before line fields sound form)))
    (λ (none : is_element_form fields ≡ false).
    let behind : composite ≡ None = rw none at rules.1 in
    ⊎_elim
    (λ (form : is_composite_form fields ≡ true).
    let sound : status ≡ None = rw form at behind in
    rw form (made-composite (is_greater before (position_of line)) (composite_status fields) (record { octets = first_field fields }) reps (sym (status_fault-rules before line (composite_status fields)) ∙ sound)))
    (λ (other : is_composite_form fields ≡ false). let wrong : Some BadLine ≡ None = rw other at behind in cc)
    (cases_Bool (is_composite_form fields)))
    (cases_Bool (is_element_form fields))

item_faults-made : (known : List CompositeDef) (earlier : List Item) (item : Item) → Unit {0} → item_faults known (last_of (map item_position earlier)) item ≡ [] → is_some (item_of item) ≡ true
item_faults-made known earlier item given none =
    let before = last_of (map item_position earlier) in
    line_faults-made before item.line item.fields item.reps (nothing-append (line_faults before item.line item.fields) (flat_map (detail_faults (is_composite_form item.fields)) item.details ++ item_end_faults known item.line item.fields (repeated_parts item.details)) none).0

-- the greatest numbers of repetitions of an entry's items are from 1 to 99
items_of-formed : (lines : List Line) → All (λ item. is_reps_formed item.reps ≡ true) (items_of lines)
items_of-formed [] = All-none (λ item. is_reps_formed item.reps ≡ true)
items_of-formed (line ∷ lines) =
    ⊎_elim
    (λ (is : is_item_line line ≡ true). rw is (All-cons (λ item. is_reps_formed item.reps ≡ true) (item_at line lines) (items_of lines) (reps_in-formed (fields_past_position line)) (items_of-formed lines)))
    (λ (other : is_item_line line ≡ false). rw other (items_of-formed lines))
    (cases_Bool (is_item_line line))

-- ---- segments

segment_of-formed : (known : List CompositeDef) (earlier : List (List Line)) (entry : List Line) → IsEntry entry → segment_faults known earlier entry ≡ [] → is_segment_formed (segment_of entry) ≡ true
segment_of-formed known earlier [] is none = let some = is.filled in cc
segment_of-formed known earlier (head ∷ body) is none =
    let items = items_of body in
    let faults = nothing-append (head_faults is_tag_of earlier head) (items_faults known items ++ count_faults head (length items)) none in
    let behind = nothing-append (items_faults known items) (count_faults head (length items)) faults.1 in
    let tag = head_faults-code is_tag_of earlier head faults.0 in
    let made = All-judged (λ (p : List Item × Item). item_faults known (last_of (map item_position p.0)) p.1) (λ _. Unit {0}) (λ item. is_some (item_of item) ≡ true) (item_faults-made known) items (All-each (λ _. Unit {0}) (λ _. tt) items) behind.0 in
    let many = ap is_count_formed (length-filter_map item_of items made) ∙ counted head (length items) behind.1 in
    let each = λ (k : ℕ) (d : Item) (lt : k < length items). item_in-formed (get_or items k d).fields (get_or items k d).reps (items_of-formed body k d lt) in
    rw (tag, many) (list_all-from_AllPass is_item_formed (items_in items) (passes-filter_map is_item_formed item_of items each))

-- the segments of a file are formed
pub segments_in-formed : (known : List CompositeDef) (file : List ℕ) (found : List SegmentDef) → segments_in_file known file ≡ Ok found → list_all is_segment_formed found ≡ true
unfolding segments_in_file
segments_in-formed known file found is =
    let entries = entries_of (lines_of file) in
    let judge = λ (p : List (List Line) × List Line). segment_faults known p.0 p.1 in
    let parts = none_from_ok (flat_map judge (with_earlier entries)) (map segment_of entries) found is in
    rw parts.1
    (list_all-from_AllPass is_segment_formed (map segment_of entries)
    (All-map (λ segment. is_segment_formed segment ≡ true) segment_of entries
    (All-judged judge IsEntry (λ entry. is_segment_formed (segment_of entry) ≡ true) (segment_of-formed known) entries (entries_of-entries file) parts.0)))
