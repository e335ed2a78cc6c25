-- Every file that was accepted before an item could have a number of repetitions is accepted, with the same definitions.
use Rattle.std.proofs.Common.{◌≡◌, ℕ, Bool, true, false, not, ◌&&◌, nat_le, if◌then◌else◌, Option, Some, None, is_some, Result, Ok, List, [], ◌∷◌, ◌++◌, length, drop, map, refl, sym, ap, subst, ◌∙◌, ⊎_elim}
use Rattle.std.specs.List.{All, flat_map}
use Rattle.std.specs.Option.{option_or}
use Rattle.std.proofs.lemmas.Bool.{cases_Bool, and_parts, and_right}
use Rattle.std.proofs.lemmas.List.Elements.{All-head, All-tail}
use Rattle.edi_tables.specs.declared.element.CompositeDef.{CompositeDef}
use Rattle.edi_tables.specs.declared.segment.SegmentDef.{SegmentDef}
use Rattle.edi_tables.specs.First.{IsVerdict}
use Rattle.edi_tables.specs.Forms.{is_element_code, is_composite_code}
use Rattle.edi_tables.specs.Tag.{is_tag_of}
use Rattle.edi_octets.specs.declared.fault.DirFault.{DirFault}
use Rattle.edi_octets.specs.declared.fault.DirKind.{DirKind}
use Rattle.edi_octets.specs.declared.fault.DirKind.TheVariants.{BadLine, BadPosition, BadStatus, BadRepr}
use Rattle.edi_octets.specs.declared.fault.DirStop.{DirStop}
use Rattle.edi_octets.specs.DirStop.{fault_in}
use Rattle.edi_octets.specs.Lines.{Line, lines_of}
use Rattle.edi_octets.specs.Profile.{first_field, entries_of, with_earlier, with_earlier_from, position_of, is_greater}
use Rattle.edi_octets.specs.Head.{head_faults}
use Rattle.edi_octets.proofs.AnswerLemmas.{none_from_ok}
use Rattle.edi_octets.proofs.EachLemmas.{nothing-append, All-each, All-judged}
use Rattle.dir_segments.specs.Parts.{is_item_line, fields_past_position, last_of, field_from_end, is_placed, is_element_form, is_composite_form, element_status, element_repr, composite_status, status_fault, element_fault, count_faults}
use Rattle.dir_segments.specs.Repetitions.{is_numbered_composite, is_numbered_element, item_fields, reps_in}
use Rattle.dir_segments.specs.Segments.{Item, item_position, items_of, line_faults, detail_faults, item_end_faults, repeated_parts, item_faults, items_faults, entry_faults, segment_faults, segment_with, segment_of, segments_in_file}
use Rattle.dir_segments.specs.Unnumbered.{unnumbered_at, unnumbered_of, unnumbered_faults, unnumbered_segment, unnumbered_in_file}
use Rattle.dir_segments.proofs.CompositeForms.{first_rule}
use Rattle.dir_segments.proofs.RepetitionLemmas.{status_in-number, is_numbered_composite-element, is_numbered_element-composite, own_fields}
use Rattle.dir_segments.proofs.StopLemmas.{none_listed}

-- ---- lines

-- a line that breaks no rule by its status has one
status_given : (greater : Bool) (status : Option Bool) (others : Option DirKind) → option_or (if not greater then Some BadPosition else (if not (is_some status) then Some BadStatus else None)) others ≡ None → (must : Bool) × (status ≡ Some must)
status_given true (Some must) others none = (must, refl)
status_given true None others none = (true, cc)
status_given false status others none = (true, cc)

status_given_alone : (greater : Bool) (status : Option Bool) → (if not greater then Some BadPosition else (if not (is_some status) then Some BadStatus else None)) ≡ None → (must : Bool) × (status ≡ Some must)
status_given_alone true (Some must) none = (must, refl)
status_given_alone true None none = (true, cc)
status_given_alone false status none = (true, cc)

-- fields among which there is no number
abbrev pub HaveNoNumber : List (List ℕ) → Type 0
HaveNoNumber fields = (item_fields fields ≡ fields) × (reps_in fields ≡ 1)

element_without : (fields : List (List ℕ)) (must : Bool) → is_element_form fields ≡ true → element_status fields ≡ Some must → HaveNoNumber fields
element_without fields must form status =
    let code = (and_parts (is_element_code (first_field fields)) (nat_le 4 (length fields)) form).0 in
    let number = status_in-number (field_from_end 2 fields) must status in
    let none : is_numbered_element fields ≡ false = rw number (and_right (is_element_code (first_field fields) && nat_le 5 (length fields)) false refl) in
    own_fields fields (is_numbered_composite-element fields code) none

composite_without : (fields : List (List ℕ)) (must : Bool) → is_composite_form fields ≡ true → composite_status fields ≡ Some must → HaveNoNumber fields
composite_without fields must form status =
    let code = (and_parts (is_composite_code (first_field fields)) (nat_le 3 (length fields)) form).0 in
    let number = status_in-number (field_from_end 1 fields) must status in
    let none : is_numbered_composite fields ≡ false = rw number (and_right (is_composite_code (first_field fields) && nat_le 4 (length fields)) false refl) in
    own_fields fields none (is_numbered_element-composite fields code)

-- a line that breaks no rule with all its fields has a status where a number would be, so it has no number
pub line_without : (before : Option ℕ) (line : Line) (fields : List (List ℕ)) → line_faults before line fields ≡ [] → HaveNoNumber fields
line_without before line fields none =
    let greater = is_greater before (position_of line) in
    let repr = if not (is_some (element_repr fields)) then Some BadRepr else None in
    let element = element_fault before line (element_status fields) (element_repr fields) in
    let status = status_fault before line (composite_status fields) in
    let composite = if is_composite_form fields then status else Some BadLine in
    let forms = if is_element_form fields then element else composite in
    let rules = first_rule (not (is_placed line)) BadLine forms (none_listed line (if not (is_placed line) then Some BadLine else forms) none) in
    ⊎_elim
    (λ (form : is_element_form fields ≡ true).
    let sound : element ≡ None = rw form at rules.1 in
    let given = status_given greater (element_status fields) repr sound in
    element_without fields given.0 form given.1)
    (λ (none : is_element_form fields ≡ false).
    let behind : composite ≡ None = rw none at rules.1 in
    ⊎_elim
    (λ (form : is_composite_form fields ≡ true).
    let sound : status ≡ None = rw form at behind in
    let given = status_given_alone greater (composite_status fields) sound in
    composite_without fields given.0 form given.1)
    (λ (other : is_composite_form fields ≡ false). let wrong : Some BadLine ≡ None = rw other at behind in absurd (cc))
    (cases_Bool (is_composite_form fields)))
    (cases_Bool (is_element_form fields))

-- ---- entries

abbrev ItemWithout : Item → Type 0
ItemWithout item = HaveNoNumber item.fields

item_without : (known : List CompositeDef) (earlier : List Item) (item : Item) → Unit {0} → item_faults known (last_of (map item_position earlier)) item ≡ [] → ItemWithout item
item_without known earlier item given none =
    let before = last_of (map item_position earlier) in
    line_without before item.line item.fields (nothing-append (line_faults before item.line item.fields) (flat_map (detail_faults (is_composite_form item.fields)) item.details ++ item_end_faults known item.line item.fields (repeated_parts item.details)) none).0

items_same : (lines : List Line) → All ItemWithout (unnumbered_of lines) → items_of lines ≡ unnumbered_of lines
items_same [] all = refl
items_same (line ∷ lines) all =
    ⊎_elim
    (λ (is : is_item_line line ≡ true).
    let both = rw is at all in
    let here : HaveNoNumber (fields_past_position line) = All-head ItemWithout (unnumbered_at line lines) (unnumbered_of lines) both in
    let later = items_same lines (All-tail ItemWithout (unnumbered_at line lines) (unnumbered_of lines) both) in
    rw (is, here.0, here.1, later) refl)
    (λ (other : is_item_line line ≡ false).
    let rest = rw other at all in
    rw other (items_same lines rest))
    (cases_Bool (is_item_line line))

-- an entry whose items are the same as before
abbrev IsSame : List Line → Type 0
IsSame entry = items_of (drop 1 entry) ≡ unnumbered_of (drop 1 entry)

entry_same : (known : List CompositeDef) (earlier : List (List Line)) (entry : List Line) → Unit {0} → unnumbered_faults known earlier entry ≡ [] → IsSame entry
entry_same known earlier [] given none = refl
entry_same known earlier (head ∷ body) given none =
    let items = unnumbered_of body in
    let faults = nothing-append (head_faults is_tag_of earlier head) (items_faults known items ++ count_faults head (length items)) none in
    let behind = nothing-append (items_faults known items) (count_faults head (length items)) faults.1 in
    items_same body (All-judged (λ (p : List Item × Item). item_faults known (last_of (map item_position p.0)) p.1) (λ _. Unit {0}) ItemWithout (item_without known) items (All-each (λ _. Unit {0}) (λ _. tt) items) behind.0)

segment_faults-same : (known : List CompositeDef) (earlier : List (List Line)) (entry : List Line) → IsSame entry → segment_faults known earlier entry ≡ unnumbered_faults known earlier entry
segment_faults-same known earlier [] same = refl
segment_faults-same known earlier (head ∷ body) same = ap (entry_faults known earlier head) same

segment_of-same : (entry : List Line) → IsSame entry → segment_of entry ≡ unnumbered_segment entry
segment_of-same [] same = refl
segment_of-same (head ∷ body) same = ap (segment_with head) same

-- ---- files

module _ (known : List CompositeDef) where
  abbrev judge : List (List Line) × List Line → List DirFault
  judge p = segment_faults known p.0 p.1

  abbrev judge_before : List (List Line) × List Line → List DirFault
  judge_before p = unnumbered_faults known p.0 p.1

  faults_same : (earlier entries : List (List Line)) → All IsSame entries → flat_map judge (with_earlier_from earlier entries) ≡ flat_map judge_before (with_earlier_from earlier entries)
  faults_same earlier [] all = refl
  faults_same earlier (entry ∷ entries) all =
      let here = segment_faults-same known earlier entry (All-head IsSame entry entries all) in
      let later = faults_same (earlier ++ entry ∷ []) entries (All-tail IsSame entry entries all) in
      rw (here, later) refl

  segments_same : (entries : List (List Line)) → All IsSame entries → map segment_of entries ≡ map unnumbered_segment entries
  segments_same [] all = refl
  segments_same (entry ∷ entries) all =
      rw (segment_of-same entry (All-head IsSame entry entries all), segments_same entries (All-tail IsSame entry entries all)) refl

  -- what was accepted is accepted, with the same definitions
  pub segments_in-unnumbered : (file : List ℕ) (due : List SegmentDef) → unnumbered_in_file known file ≡ Ok due → segments_in_file known file ≡ Ok due
  unfolding segments_in_file unnumbered_in_file
  segments_in-unnumbered file due is =
      let entries = entries_of (lines_of file) in
      let parts = none_from_ok (flat_map judge_before (with_earlier entries)) (map unnumbered_segment entries) due is in
      let same = All-judged judge_before (λ _. Unit {0}) IsSame (entry_same known) entries (All-each (λ _. Unit {0}) (λ _. tt) entries) parts.0 in
      let none : flat_map judge (with_earlier entries) ≡ [] = faults_same [] entries same ∙ parts.0 in
      let found : map segment_of entries ≡ due = segments_same entries same ∙ sym parts.1 in
      rw (none, found) refl

  -- so what is answered now answers what was due then
  pub as_before : {X : Type 0} (view : X → List SegmentDef) (result : Result X DirStop) (file : List ℕ) (due : List SegmentDef) → IsVerdict view fault_in result (segments_in_file known file) → unnumbered_in_file known file ≡ Ok due → IsVerdict view fault_in result (Ok due)
  as_before view result file due given is =
      let Due : Result (List SegmentDef) DirFault → Type 0 = λ r. IsVerdict view fault_in result r in
      subst Due (segments_in-unnumbered file due is) given
