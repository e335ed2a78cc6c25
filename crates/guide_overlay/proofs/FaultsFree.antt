-- A text whose segments have no structure error by a narrowed directory has none by its base, where the base's tables
-- that it uses list no collision.
use Rattle.std.proofs.Common.{◌≡◌, ℕ, zero, suc, ◌+◌, ◌-◌, ◌<◌, ◌≤◌, Bool, true, List, [], ◌∷◌, ◌++◌, Option, Some, None, length, get_or, inl, inr, refl, sym, ap, subst, ◌∙◌, arith, eq-eqb}
use Rattle.std.specs.Prelude.{⊤, filter, codes, position, ◌==◌}
use Rattle.std.specs.List.{flat_map, range_with_len}
use Rattle.std.specs.Option.{option_and_then}
use Rattle.std.proofs.lemmas.Bool.{cases_Bool, false≢true}
use Rattle.edi_tables.specs.declared.tag.Tag.{Tag}
use Rattle.edi_tables.specs.declared.table.Node.{Node}
use Rattle.edi_tables.specs.Extents.{Extent, message_at, tag_in}
use Rattle.edi_tables.specs.Rows.{has_name}
use Rattle.edi_tables.proofs.Openings.{next_stop, stretch_to}
use Rattle.dir_compile.specs.declared.parts.Parts.{Parts}
use Rattle.dir_compile.specs.Directory.{TableName, is_table_named}
use Rattle.envelope_check.proofs.Extents.{closes_message, ends_message}
use Rattle.seg_lexer.specs.Fields.{Component}
use Rattle.table_walk.specs.Errors.{Fault, StructureError, at_place, faults_at, open_faults, structure_errors_of}
use Rattle.table_walk.specs.Reading.{reading_of}
use Rattle.segment_records.specs.Messages.{Position, faults_in, message_faults, nodes_at, opening_segment_of, position_at, structure_errors_at, table_for, tags_of_message}
use Rattle.segment_records.specs.Messages.Position.{Outside, Untabled, Within}
use Rattle.segment_records.specs.Segments.{Segment, segments_of_text, tags_in, value_in}
use Rattle.segment_records.proofs.Held.{length_tags}
use Rattle.segment_records.proofs.Prefixes.{length_reading, range_at}
use Rattle.text_reading.proofs.PlacedLaws.{OpensAt, ends, first_place_is, lawful, long, message_held, opening_is, position_there}
use Rattle.guide_overlay.proofs.CleanReading.{tag_in_is}
use Rattle.guide_overlay.proofs.FreeOfNarrowed.{free_of_narrowed}
use Rattle.guide_overlay.specs.Narrowed.{HasNoCollision, IsNarrowed}

-- the first of some errors is at a place below n
abbrev IsBelow : ℕ → List StructureError → Type 0
IsBelow n [] = ⊤
IsBelow n (error ∷ errors) = error.at < n

below_joined : (n : ℕ) (one two : List StructureError) → IsBelow n one → IsBelow n two → IsBelow n (one ++ two)
below_joined n [] two front back = back
below_joined n (error ∷ one) two front back = front

below_place : (n k : ℕ) (faults : List Fault) → k < n → IsBelow n (at_place k faults)
below_place n k [] within = tt
below_place n k (fault ∷ faults) within = within

below_places : (n : ℕ) (f : ℕ → List Fault) (from count : ℕ) → from + count ≤ n
    → IsBelow n (flat_map (λ k. at_place k (f k)) (range_with_len from count))
below_places n f from zero within = tt
below_places n f from (suc count) within =
    below_joined n (at_place from (f from)) (flat_map (λ k. at_place k (f k)) (range_with_len (from + 1) count))
    (below_place n from (f from) (omega arith)) (below_places n f (from + 1) count (omega arith))

-- each structure error is at a segment of its message
errors_below : (nodes : List Node) (tags : List (Option Tag)) (closed : Bool) → 0 < length tags
    → IsBelow (length tags) (structure_errors_of nodes tags closed)
unfolding structure_errors_of
errors_below nodes tags closed some =
    let placed : List (Option ℕ) = reading_of nodes tags in
    let same : length placed ≡ length tags = length_reading nodes tags in
    below_joined (length tags)
    (flat_map (λ k. at_place k (faults_at nodes placed k)) (range_with_len 1 (length placed - 1)))
    (at_place (length placed - 1) (open_faults nodes placed closed))
    (below_places (length tags) (faults_at nodes placed) 1 (length placed - 1) (omega arith))
    (below_place (length tags) (length placed - 1) (open_faults nodes placed closed) (omega arith))

-- there is none where none is at any segment
none_left : (first n : ℕ) (errors : List StructureError) → IsBelow n errors
    → ((k : ℕ) → k < n → filter (λ error. first + error.at == first + k) errors ≡ []) → errors ≡ []
none_left first n [] below each = refl
none_left first n (error ∷ errors) below each =
    let none = each error.at below in
    let here : (first + error.at == first + error.at) ≡ true = eq-eqb (first + error.at) (first + error.at) refl in
    absurd (let there = rw here at none in let no : ⊥ = cc in no)

-- a closed message ends with the segment that closes it
closed_last : (c : ℕ → Bool) (n a : ℕ) (r : Option ℕ) → (stretch_to c n a r).closed ≡ true
    → c ((stretch_to c n a r).last - 1) ≡ true
closed_last c n a None closed = absurd (false≢true closed)
closed_last c n a (Some j) closed = elim (cases_Bool (c j)) [
  | inl closes ↦ rw closes (let back : j + 1 - 1 ≡ j = omega arith in ap c back ∙ closes)
  | inr stays ↦ absurd (false≢true (rw stays at closed))
]

-- positions by what finds the table that a UNH names
abbrev position_by : (List Component → Option ℕ) → List Segment → ℕ → Position
position_by table_of segments i =
    elim (message_at (tags_in segments) i) [
      | None ↦ Outside
      | Some e ↦ elim (option_and_then (λ opening. table_of opening.components) (opening_segment_of segments e)) [
        | None ↦ Untabled
        | Some table ↦ Within table e
      ]
    ]

module _ (base dir : Parts) (it : IsNarrowed base dir) where
  -- a UNH names the same table
  pub tables_same : table_for dir ≡ table_for base
  tables_same =
      let table_of : List TableName → List Component → Option ℕ = λ names components.
      position
      (is_table_named (value_in components 2 1) (value_in components 2 2) (value_in components 2 3) (value_in components 2 4))
      names in
      ap table_of it.names

  position_same : (segments : List Segment) (i : ℕ) → position_at dir segments i ≡ position_at base segments i
  unfolding position_at
  position_same segments i = ap (λ (table_of : List Component → Option ℕ). position_by table_of segments i) tables_same

  module _ (text : List ℕ) where
    abbrev segments : List Segment
    segments = segments_of_text text

    abbrev tags : List (Option Tag)
    tags = tags_in segments

    module _ (free : (j : ℕ) → j < length segments → structure_errors_at dir segments j ≡ []) (none : HasNoCollision base text) where
      -- of a message that opens at place a
      module _ (i table : ℕ) (e : Extent) (is : position_at base segments i ≡ Within table e) (a : ℕ) (opens : OpensAt tags e a) where
        abbrev message : List (Option Tag)
        message = tags_of_message segments e

        here : position_at dir segments i ≡ Within table e
        here = position_same segments i ∙ is

        as_long : length message ≡ e.last - a
        as_long = long base it.from text i table e is a opens

        reaches : (a + 1 ≤ e.last) × (e.last ≤ length tags)
        reaches = ends base it.from text i table e is a opens

        from_first : e.first ≡ a + 1
        from_first = first_place_is base it.from text i table e is a opens

        some : 0 < length message
        some = omega (arith, as_long, reaches.0)

        tag_there : (k : ℕ) → k < length message → tag_in message k ≡ tag_in tags (a + k)
        tag_there k within =
            let front : (a + k) - (e.first - 1) ≡ k = omega (arith, from_first) in
            tag_in_is message k
            ∙ ap (λ (n : ℕ). get_or message n None) (sym front)
            ∙ range_at tags (e.first - 1) (a + k) e.last None (omega (arith, from_first)) (omega (arith, as_long))
            ∙ sym (tag_in_is tags (a + k))

        opens_there : has_name (codes "UNH") (tag_in message 0) ≡ true
        opens_there =
            let same : a + 0 ≡ a = omega arith in
            ap (has_name (codes "UNH")) (tag_there 0 some ∙ ap (tag_in tags) same) ∙ opens.opens

        closes_there : e.closed ≡ true → has_name (codes "UNT") (tag_in message (length message - 1)) ≡ true
        closes_there closed =
            let shut : closes_message tags (e.last - 1) ≡ true =
            subst (λ (f : Extent). f.closed ≡ true → closes_message tags (f.last - 1) ≡ true) (sym opens.extent)
            (closed_last (closes_message tags) (length tags) a (next_stop (ends_message tags) (length tags) a)) closed in
            let last : a + (length message - 1) ≡ e.last - 1 = omega (arith, as_long, reaches.0) in
            ap (has_name (codes "UNT")) (tag_there (length message - 1) (omega (arith, some)) ∙ ap (tag_in tags) last) ∙ shut

        abbrev errors : List StructureError
        errors = structure_errors_of (nodes_at dir table) message e.closed

        none_at : (k : ℕ) → k < length message → message_faults dir segments table e (a + k) ≡ []
        unfolding structure_errors_at
        none_at k within =
            ap (faults_in dir segments (a + k))
            (sym (position_there dir it.directory text i table e here a opens (a + k) (omega arith) (omega (arith, as_long))))
            ∙ free (a + k) (omega (arith, as_long, reaches.1, length_tags dir segments))

        free_there : structure_errors_of (nodes_at dir table) message e.closed ≡ []
        free_there =
            none_left e.first (length message) errors (errors_below (nodes_at dir table) message e.closed some)
            (λ k within. let same : e.first + k ≡ a + k + 1 = omega (arith, from_first) in
            ap (λ (n : ℕ). filter (λ error. e.first + error.at == n) errors) same ∙ none_at k within)

        message_free : structure_errors_of (nodes_at base table) message e.closed ≡ []
        message_free =
            free_of_narrowed (nodes_at base table) (nodes_at dir table) (it.tables table).0 (it.tables table).1
            (lawful base it.from text i table e is a opens) (lawful dir it.directory text i table e here a opens)
            (none i table e is) message e.closed some opens_there closes_there free_there e.closed

      faults_by : (i : ℕ) (p : Position) → position_at base segments i ≡ p → faults_in base segments i p ≡ []
      faults_by i Outside is = refl
      faults_by i Untabled is = refl
      faults_by i (Within table e) is =
          let opening = opening_is tags i e (message_held base it.from text i table e is) in
          ap (filter (λ error. e.first + error.at == i + 1)) (message_free i table e is opening.0 opening.1)

      -- no segment has a structure error by the base
      pub faults_free : (i : ℕ) → structure_errors_at base segments i ≡ []
      unfolding structure_errors_at
      faults_free i = faults_by i (position_at base segments i) refl
