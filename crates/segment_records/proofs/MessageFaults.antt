-- What is wrong at one segment of a message, of all that is wrong in it, by the pairs before the segment and after it.
use Rattle.std.proofs.Common.{◌≡◌, ℕ, ◌+◌, ◌-◌, ◌<◌, ◌≤◌, Bool, true, false, not, cond, List, [], ◌∷◌, ◌++◌, ◌&&◌, Option, Some, None, length, map, refl, sym, ap, ◌∙◌, arith, eq-eqb}
use Rattle.std.specs.Prelude.{slice_get, slice_range, ◌==◌, if◌then◌else◌}
use Rattle.std.specs.List.{flat_map, range_with_len}
use Rattle.std.proofs.lemmas.Bool.{eqb-true, ne_eqb}
use Rattle.edi_tables.specs.declared.tag.Tag.{Tag}
use Rattle.edi_tables.specs.declared.table.Node.{Node}
use Rattle.edi_tables.specs.Extents.{Extent}
use Rattle.edi_tables.specs.Pairs.{entry_in}
use Rattle.edi_tables.specs.Placement.{last_placed}
use Rattle.edi_tables.specs.Rows.{IsTable}
use Rattle.edi_tables.specs.Walk.{missing_past}
use Rattle.table_walk.specs.Errors.{Fault, StructureError, at_place, errors_of_placed, faults_of, open_faults}
use Rattle.table_walk.specs.Errors as errors
use Rattle.table_walk.specs.Errors.Fault.{Missing, Over}
use Rattle.table_walk.specs.Reading.{member_at}
use Rattle.table_walk.specs.Steps.{is_over_in, member_in, missing_in}
use Rattle.table_walk.proofs.Readings.{reading_is}
use Rattle.table_walk.proofs.Sound.{Sound, sound_reading}
use Rattle.table_walk.proofs.Onward.{entry_is, missing_same, over_same}
use Rattle.segment_records.specs.Laws.{faults_of_member}
use Rattle.segment_records.proofs.Prefixes.{length_range, length_reading}
use Rattle.segment_records.proofs.Told.{told, told_append, told_none, told_one, told_place}
use Rattle.segment_records.proofs.Walks.{front_between, member_between, member_by, pairs_between, placed_between, sound_between}

-- a message whose segments are at these tags from place a on, up to its last
module _ (nodes : List Node) (table : IsTable nodes) (tags : List (Option Tag)) (e : Extent) (a i : ℕ)
    (first : e.first ≡ a + 1) (low : a ≤ i) (reaches : i + 1 ≤ e.last) (high : e.last ≤ length tags) where
  abbrev whole : List (Option ℕ)
  whole = placed_between nodes tags a e.last

  -- an error is at place i of the text
  abbrev pub is_here : ℕ → Bool
  is_here k = e.first + k == i + 1

  length_whole : length whole ≡ e.last - a
  length_whole = length_reading nodes (slice_range tags a e.last) ∙ length_range tags a e.last high

  here : is_here (i - a) ≡ true
  here = eq-eqb (e.first + (i - a)) (i + 1) (omega (arith, first))

  not_here : (k : ℕ) → (k ≡ i - a → ⊥) → is_here k ≡ false
  not_here k other = ne_eqb (e.first + k) (i + 1) (λ same. other (omega (arith, first)))

  -- the faults of the members, and those at the end
  abbrev member_faults : List StructureError
  member_faults = flat_map (λ k. at_place k (errors.faults_at nodes whole k)) (range_with_len 1 (length whole - 1))

  pub told_parts : told is_here (errors_of_placed nodes whole e.closed)
      ≡ told is_here member_faults ++ cond (e.last == i + 1) (open_faults nodes whole e.closed) []
  told_parts =
      let last : e.first + (length whole - 1) ≡ e.last = omega (arith, first, length_whole) in
      told_append is_here member_faults (at_place (length whole - 1) (open_faults nodes whole e.closed))
      ∙ ap (λ (more : List Fault). told is_here member_faults ++ more)
      (told_place is_here (length whole - 1) (open_faults nodes whole e.closed)
      ∙ ap (λ (n : ℕ). cond (n == i + 1) (open_faults nodes whole e.closed) []) last)

  -- UNH has no fault of its own
  pub told_first : a ≡ i → told is_here member_faults ≡ []
  told_first same =
      told_none is_here (errors.faults_at nodes whole) 1 (length whole - 1)
      (λ k past. not_here k (λ other. omega arith))

  -- a later segment has those that the pairs before it tell
  module _ (tag : Option Tag) (at : slice_get tags i ≡ Some tag) (after : a < i) where
    abbrev pairs : List (ℕ × ℕ)
    pairs = pairs_between nodes tags a i

    told_member : told is_here member_faults ≡ errors.faults_at nodes whole (i - a)
    told_member =
        told_one is_here (errors.faults_at nodes whole) 1 (length whole - 1) (i - a) (omega arith)
        (omega (arith, length_whole)) here not_here

    faults_by : (member : Option ℕ) → faults_of nodes (placed_between nodes tags a i) member
        ≡ faults_of_member member (missing_in nodes pairs member) (is_over_in nodes pairs member)
    faults_by None = refl
    faults_by (Some c) =
        let placed = placed_between nodes tags a i in
        let sound = sound_between nodes table tags a i tag after at in
        ap (λ (missing : List ℕ). map Missing missing ++
        (if errors.is_member_over nodes placed (Some c) then Over c ∷ [] else []))
        (sym (missing_same nodes table placed sound (Some c)))
        ∙ ap (λ (over : Bool). map Missing (missing_in nodes pairs (Some c)) ++ (if over then Over c ∷ [] else []))
        (sym (over_same nodes table placed sound (Some c)))

    pub told_later : told is_here member_faults
        ≡ (let member = member_in nodes pairs tag in
        faults_of_member member (missing_in nodes pairs member) (is_over_in nodes pairs member))
    told_later =
        told_member
        ∙ ap (λ (placed : List (Option ℕ)). faults_of nodes placed (member_at whole (i - a)))
        (front_between nodes table tags a i tag after at e.last reaches high)
        ∙ ap (faults_of nodes (placed_between nodes tags a i))
        (member_between nodes table tags a i tag after at e.last reaches high
        ∙ member_by nodes table tags a i tag after at)
        ∙ faults_by (member_in nodes pairs tag)

  -- the faults at the end of a message that is closed
  pub told_closed : e.closed ≡ true → cond (e.last == i + 1) (open_faults nodes whole e.closed) [] ≡ []
  told_closed closed =
      ap (λ (b : Bool). cond (e.last == i + 1) (open_faults nodes whole b) []) closed ∙ none (e.last == i + 1)
    where
      none : (b : Bool) → cond b (let no : List Fault = [] in no) [] ≡ []
      none true = refl
      none false = refl

  -- and of one that isn't, by the pairs after its last segment
  module _ (ends : Bool) (tells : ends ≡ (not e.closed && e.last == i + 1)) where
    abbrev after : List (ℕ × ℕ)
    after = pairs_between nodes tags a (i + 1)

    last_is : e.last ≡ i + 1 → missing_past nodes (last_placed whole) ≡ missing_past nodes (entry_in after)
    last_is same =
        let tags_here : List (Option Tag) = slice_range tags a (i + 1) in
        let some : 0 < length tags_here = omega (arith, length_range tags a (i + 1) (omega arith)) in
        let placed = placed_between nodes tags a (i + 1) in
        let sound : Sound nodes placed = sound_reading nodes table tags_here placed (reading_is nodes tags_here some) in
        ap (λ (n : ℕ). missing_past nodes (last_placed (placed_between nodes tags a n))) same
        ∙ ap (missing_past nodes) (sym (entry_is nodes table placed sound))

    told_end : (closed same : Bool) → e.closed ≡ closed → (e.last == i + 1) ≡ same
        → cond same (open_faults nodes whole closed) []
        ≡ (if not closed && same then map Missing (missing_past nodes (entry_in after)) else [])
    told_end true true is_closed is = refl
    told_end true false is_closed is = refl
    told_end false true is_closed is = ap (map Missing) (last_is (eqb-true e.last (i + 1) is))
    told_end false false is_closed is = refl

    pub told_ended : cond (e.last == i + 1) (open_faults nodes whole e.closed) []
        ≡ (if ends then map Missing (missing_past nodes (entry_in after)) else [])
    told_ended =
        told_end e.closed (e.last == i + 1) refl refl
        ∙ ap (λ (b : Bool). if b then map Missing (missing_past nodes (entry_in after)) else []) (sym tells)
