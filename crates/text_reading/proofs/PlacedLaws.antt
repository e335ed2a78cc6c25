-- The tree of a text places the segments of each message as the reading of the message does.
use Rattle.std.proofs.Common.{◌≡◌, ℕ, ◌+◌, ◌-◌, ◌<◌, ◌≤◌, Bool, true, false, List, [], ◌&&◌, Option, Some, None, length, map, take, get_or, inl, inr, refl, sym, ap, subst, ◌∙◌, arith}
use Rattle.std.specs.Prelude.{find, slice_get, slice_range}
use Rattle.std.specs.List.{enumerate_from, range_with_len}
use Rattle.std.specs.Option.{option_map, option_and_then}
use Rattle.std.proofs.lemmas.Bool.{cases_Bool, cases_eq, cases_lt, false≢true, and_parts}
use Rattle.std.proofs.lemmas.List.{get_or-map, get_or_default, length-map, same_lists}
use Rattle.std.proofs.lemmas.List.FromFn.{get_or-enumerate_from, length-enumerate_from}
use Rattle.edi_tables.specs.declared.tag.Tag.{Tag}
use Rattle.edi_tables.specs.declared.table.Node.{Node}
use Rattle.edi_tables.specs.Extents.{Extent, lies_in, message_at, message_extents}
use Rattle.edi_tables.specs.Placement.{group_count}
use Rattle.edi_tables.specs.Rows.{IsTable}
use Rattle.edi_tables.proofs.Openings.{AreMarks, IsClear, Opened, holder, next_stop, opened, opened_is, stretch, stretch_at, stretch_to}
use Rattle.edi_tables.proofs.Searching.{Found, IsFirst, find_given, found}
use Rattle.dir_compile.specs.declared.parts.Parts.{Parts}
use Rattle.dir_compile.specs.Directory.{IsDirectory}
use Rattle.envelope_check.proofs.Extents.{closes_message, ends_message, message_from, message_marks, message_opened, opens_message}
use Rattle.error_ledger.specs.declared.tree.TreeLine.{TreeLine}
use Rattle.table_walk.specs.Reading.{member_at, reading_of}
use Rattle.table_walk.proofs.Derived.{derived}
use Rattle.table_walk.proofs.Readings.{reading_is}
use Rattle.table_walk.proofs.Whole.{first_place, whole_is}
use Rattle.segment_records.specs.Messages.{Position, message_reading, nodes_at, position_at, position_in, table_for, tags_of_message}
use Rattle.segment_records.specs.Messages.Position.{Outside, Untabled, Within}
use Rattle.segment_records.specs.Places.{place_at, place_in, tree_place_of, place_with}
use Rattle.segment_records.specs.Segments.{Segment, segments_of_text, tags_in}
use Rattle.segment_records.proofs.Ends.{message_reaches}
use Rattle.segment_records.proofs.Held.{length_tags, position_is, position_with, table_opened}
use Rattle.segment_records.proofs.ModeLaws.{opened_within}
use Rattle.segment_records.proofs.Prefixes.{length_range, length_reading, range_at}
use Rattle.segment_records.proofs.Sites.{first_is}
use Rattle.segment_records.proofs.Tables.{table_is}
use Rattle.text_reading.specs.Placed.{AreMessagesPlaced, IsMessagePlaced, entries_shown, entry_shown}
use Rattle.text_reading.specs.Tree.{tree_line, tree_of}

-- a place that an extent reaches is held by the place that opens it
module _ (o c s : ℕ → Bool) (n a : ℕ) (marks : AreMarks o c s) (opens : o a ≡ true) where
  opened_by : (j : ℕ) → a < j → IsClear s a j → (r : Option ℕ) → Opened o s j r → r ≡ Some a
  opened_by j before clear None shut = absurd (shut.shut a before opens clear)
  opened_by j before clear (Some b) is_open = elim (cases_eq a b) [
    | inl same ↦ ap Some (sym same)
    | inr other ↦ elim (cases_lt a b) [
      | inl low ↦ absurd (false≢true (sym (clear.clear b low is_open.before) ∙ marks.opening b is_open.opens))
      | inr high ↦ absurd (false≢true (sym (is_open.clear.clear a (omega arith) before) ∙ marks.opening a opens))
    ]
  ]

  opened_is_it : (j : ℕ) → a < j → IsClear s a j → opened o s j ≡ Some a
  opened_is_it j before clear = opened_by j before clear (opened o s j) (opened_is o s j)

  -- no place of these stops
  held_within : (j : ℕ) → a < j → IsClear s a j → s j ≡ false → holder o c s j ≡ Some a
  held_within j before clear stays = elim (cases_Bool (o j)) [
    | inl here ↦ absurd (false≢true (sym stays ∙ marks.opening j here))
    | inr never ↦ rw (never, stays) (opened_is_it j before clear)
  ]

  -- the closing one
  held_closing : (j : ℕ) → a < j → IsClear s a j → c j ≡ true → holder o c s j ≡ Some a
  held_closing j before clear closes = elim (cases_Bool (o j)) [
    | inl here ↦ absurd (false≢true (sym (marks.apart j here) ∙ closes))
    | inr never ↦ rw (never, marks.closing j closes, closes) (opened_is_it j before clear)
  ]

  held_own : (j : ℕ) → a ≡ j → holder o c s j ≡ Some a
  held_own j same = ap (holder o c s) (sym same) ∙ rw opens refl

  clear_before : (j m : ℕ) → IsFirst s (a + 1) n m → j ≤ m → IsClear s a j
  clear_before j m first low = record { clear = λ k past below. first.none k (omega arith) (omega arith) }

  held_to : (j : ℕ) → a < j → (r : Option ℕ) → Found s (a + 1) n r → j + 1 ≤ (stretch_to c n a r).last → holder o c s j ≡ Some a
  held_to j before None none low =
      held_within j before (record { clear = λ k past below. none.none k (omega arith) (omega arith) }) (none.none j (omega arith) (omega arith))
  held_to j before (Some m) first low = elim (cases_Bool (c m)) [
    | inl closes ↦
        let reach : j ≤ m = let short = rw closes at low in omega arith in
        elim (cases_eq j m) [
          | inl same ↦ held_closing j before (clear_before j m first reach) (ap c same ∙ closes)
          | inr other ↦ held_within j before (clear_before j m first reach) (first.none j (omega arith) (omega arith))
        ]
    | inr stays ↦
        let reach : j < m = let short = rw stays at low in omega arith in
        held_within j before (clear_before j m first (omega arith)) (first.none j (omega arith) reach)
  ]

  pub held_by : a < n → (j : ℕ) → a ≤ j → j + 1 ≤ (stretch c s n a).last → holder o c s j ≡ Some a
  held_by within j from low = elim (cases_eq a j) [
    | inl same ↦ held_own j same
    | inr other ↦ held_to j (omega arith) (next_stop s n a) (found s (a + 1) (n - (a + 1)) n (omega arith)) low
  ]

-- the message of a segment opens at some place
pub record OpensAt (tags : List (Option Tag)) (e : Extent) (a : ℕ) : Type 0 where
  pub within : a < length tags
  pub opens : opens_message tags a ≡ true
  pub extent : e ≡ message_from tags a

module _ (tags : List (Option Tag)) where
  abbrev lies_from : ℕ → ℕ → Bool
  lies_from i a = opens_message tags a && lies_in i (message_from tags a)

  message_found : (i : ℕ) → message_at tags i ≡ option_map (message_from tags) (find (lies_from i) (range_with_len 0 (length tags)))
  unfolding message_at message_extents
  message_found i = find_given (opens_message tags) (message_from tags) (lies_in i) (range_with_len 0 (length tags))

  opening_found : (i : ℕ) (e : Extent) (r : Option ℕ) → Found (lies_from i) 0 (length tags) r → option_map (message_from tags) r ≡ Some e → (a : ℕ) × OpensAt tags e a
  opening_found i e None none is = absurd (let no : ⊥ = cc in no)
  opening_found i e (Some a) first is = (
    a,
    record {
      within = first.below;
      opens = (and_parts (opens_message tags a) (lies_in i (message_from tags a)) first.passes).0;
      extent = let same : e ≡ message_from tags a = cc in same;
    },
  )

  pub opening_is : (i : ℕ) (e : Extent) → message_at tags i ≡ Some e → (a : ℕ) × OpensAt tags e a
  opening_is i e is =
      opening_found i e (find (lies_from i) (range_with_len 0 (length tags))) (found (lies_from i) 0 (length tags) (length tags) (omega arith))
      (sym (message_found i) ∙ is)

  -- each place of a message has it
  pub message_is : (e : Extent) (a : ℕ) → OpensAt tags e a → (j : ℕ) → a ≤ j → j + 1 ≤ e.last → j < length tags → message_at tags j ≡ Some (message_from tags a)
  unfolding message_at message_extents
  message_is e a it j from low within =
      let reach : j + 1 ≤ (message_from tags a).last = let same = ap (λ (e : Extent). e.last) it.extent in omega arith in
      stretch_at (opens_message tags) (closes_message tags) (ends_message tags) (length tags) j (message_marks tags) within
      ∙ ap (option_map (message_from tags))
      (held_by (opens_message tags) (closes_message tags) (ends_message tags) (length tags) a (message_marks tags) it.opens it.within j from reach)

  -- it has a segment, and ends with the text at the latest
  pub ends_within : (a : ℕ) → a < length tags → opens_message tags a ≡ true → (a + 1 ≤ (message_from tags a).last) × ((message_from tags a).last ≤ length tags)
  ends_within a within opens =
      let next : message_opened tags (a + 1) ≡ Some a =
      opened_is_it (opens_message tags) (closes_message tags) (ends_message tags) (length tags) a (message_marks tags) opens (a + 1) (omega arith)
      (record { clear = λ k past below. absurd (omega arith) }) in
      let by = message_reaches tags a a within next in
      (by.low, by.high)

-- an entry that a place shows is that of the reading
shown_with : (nodes : List Node) (count : ℕ → ℕ) (member : Option ℕ) → entry_shown (place_with nodes count member) ≡ member
shown_with nodes count None = refl
shown_with nodes count (Some entry) = refl

shown_in : (nodes : List Node) (placed : List (Option ℕ)) (k : ℕ) → entry_shown (place_in nodes placed k) ≡ member_at placed k
shown_in nodes placed k = shown_with nodes (group_count nodes (take (k + 1) placed)) (member_at placed k)

-- what is shown is the reading
module _ (nodes : List Node) (table : IsTable nodes) (tags : List (Option Tag)) (some : 0 < length tags) (shown : List (Option ℕ)) (is : shown ≡ reading_of nodes tags) where
  pub placed_of : IsMessagePlaced nodes tags shown
  placed_of = (
    record {
      opening = ap (λ (placed : List (Option ℕ)). slice_get placed 0) is ∙ (reading_is nodes tags some).first;
      later = λ k within none. first_place nodes tags shown (whole_is nodes tags shown is some) k within none;
    },
    λ none names entries same derivation. derived nodes table none tags shown is some names entries same derivation,
  )

module _ (dir : Parts) (directory : IsDirectory dir) (text : List ℕ) where
  abbrev segments : List Segment
  segments = segments_of_text text

  abbrev tags : List (Option Tag)
  tags = tags_in segments

  -- a position in a message with a table is that of its message
  position_held_in : (table : ℕ) (e f : Extent) (found : Option ℕ) → position_with found f ≡ Within table e → (found ≡ Some table) × (f ≡ e)
  position_held_in table e f None is = absurd (let no : ⊥ = cc in no)
  position_held_in table e f (Some t) is = (let same : Some t ≡ Some table = cc in same, let same : f ≡ e = cc in same)

  message_by : (table : ℕ) (e : Extent) (at : Option Extent) → (elim at [ None ↦ Outside | Some f ↦ position_in dir segments f ]) ≡ Within table e → at ≡ Some e
  message_by table e None is = absurd (let no : ⊥ = cc in no)
  message_by table e (Some f) is = by (option_and_then (λ opening. table_for dir opening.components) (slice_get segments (f.first - 1))) is
    where
      by : (found : Option ℕ) → (elim found [ None ↦ Untabled | Some t ↦ Within t f ]) ≡ Within table e → Some f ≡ Some e
      by None is = absurd (let no : ⊥ = cc in no)
      by (Some t) is = cc

  pub message_held : (i table : ℕ) (e : Extent) → position_at dir segments i ≡ Within table e → message_at tags i ≡ Some e
  unfolding position_at
  message_held i table e is = message_by table e (message_at tags i) is

  -- of a message that opens at place a
  module _ (i table : ℕ) (e : Extent) (is : position_at dir segments i ≡ Within table e) (a : ℕ) (it : OpensAt tags e a) where
    abbrev nodes : List Node
    nodes = nodes_at dir table

    abbrev whole : List (Option ℕ)
    whole = message_reading dir segments table e

    table_there : table_opened dir segments a ≡ Some table
    table_there =
        (position_held_in table e (message_from tags a) (table_opened dir segments a)
        (sym (position_is dir segments i (Some a) (message_held i table e is ∙ ap Some it.extent)) ∙ is)).0

    pub lawful : IsTable nodes
    lawful = table_is dir directory table (opened_within dir directory segments a table table_there)

    pub first_place_is : e.first ≡ a + 1
    first_place_is = ap (λ (e : Extent). e.first) it.extent ∙ first_is tags a

    pub ends : (a + 1 ≤ e.last) × (e.last ≤ length tags)
    ends = subst (λ (f : Extent). (a + 1 ≤ f.last) × (f.last ≤ length tags)) (sym it.extent) (ends_within tags a it.within it.opens)

    pub position_there : (j : ℕ) → a ≤ j → j + 1 ≤ e.last → position_at dir segments j ≡ Within table e
    position_there j from low =
        position_is dir segments j (Some a) (message_is tags e a it j from low (omega (arith, ends.1)))
        ∙ ap (λ (found : Option ℕ). position_with found (message_from tags a)) table_there
        ∙ ap (Within table) (sym it.extent)

    shown_there : (j : ℕ) → a ≤ j → j + 1 ≤ e.last → entry_shown (place_at dir segments j) ≡ member_at whole (j + 1 - e.first)
    unfolding place_at
    shown_there j from low =
        ap (λ (p : Position). entry_shown (tree_place_of dir segments j p)) (position_there j from low)
        ∙ shown_in nodes whole (j + 1 - e.first)

    pub long : length (tags_of_message segments e) ≡ e.last - a
    long = length_range tags (e.first - 1) e.last ends.1 ∙ (omega (arith, first_place_is))

    long_whole : length whole ≡ e.last - a
    long_whole = length_reading nodes (tags_of_message segments e) ∙ long

    -- a member of the tree
    abbrev no_segment : Segment
    no_segment = record { from = 0; start = 0; end = 0; components = []; tag = None }

    abbrev lines : List TreeLine
    lines = map (tree_line dir segments) (enumerate_from 0 segments)

    abbrev no_line : TreeLine
    no_line = tree_line dir segments (0, no_segment)

    long_lines : length lines ≡ length tags
    long_lines =
        length-map (enumerate_from 0 segments) (tree_line dir segments) ∙ length-enumerate_from 0 segments
        ∙ sym (length_tags dir segments)

    line_place : (j : ℕ) → j < length segments → (get_or lines j no_line).place ≡ place_at dir segments j
    line_place j within =
        let count = length-enumerate_from 0 segments in
        let here : 0 + j ≡ j = omega arith in
        ap (λ (line : TreeLine). line.place)
        (get_or-map (tree_line dir segments) (enumerate_from 0 segments) j (0, no_segment) no_line (omega arith)
        ∙ ap (tree_line dir segments) (get_or-enumerate_from 0 segments j (0, no_segment) within))
        ∙ ap (place_at dir segments) here

    line_shown : (j : ℕ) → a ≤ j → j + 1 ≤ e.last → entry_shown (get_or lines j no_line).place ≡ member_at whole (j + 1 - e.first)
    line_shown j from low =
        let within : j < length segments = let count = length_tags dir segments in omega (arith, ends.1) in
        ap entry_shown (line_place j within) ∙ shown_there j from low

    long_range : length (slice_range lines (e.first - 1) e.last) ≡ e.last - a
    long_range = length_range lines (e.first - 1) e.last (omega (arith, ends.1, long_lines)) ∙ omega (arith, first_place_is)

    member_shown : (k : ℕ) → k < e.last - a → entry_shown (get_or (slice_range lines (e.first - 1) e.last) k no_line).place ≡ get_or whole k None
    member_shown k within =
        let front : e.first - 1 ≡ a = omega (arith, first_place_is) in
        let back : k ≡ (a + k) - a = omega arith in
        let there : (a + k) + 1 - e.first ≡ k = omega (arith, first_place_is) in
        ap (λ (b : ℕ). entry_shown (get_or (slice_range lines b e.last) k no_line).place) front
        ∙ ap (λ (j : ℕ). entry_shown (get_or (slice_range lines a e.last) j no_line).place) back
        ∙ ap (λ (line : TreeLine). entry_shown line.place) (range_at lines a (a + k) e.last no_line (omega arith) (omega arith))
        ∙ line_shown (a + k) (omega arith) (omega arith)
        ∙ ap (member_at whole) there

    shown_lines : entries_shown lines e ≡ whole
    shown_lines =
        let made : length (entries_shown lines e) ≡ e.last - a =
        length-map (slice_range lines (e.first - 1) e.last) (λ (line : TreeLine). entry_shown line.place) ∙ long_range in
        same_lists (entries_shown lines e) whole (made ∙ sym long_whole)
        (λ k d within.
        get_or-map (λ (line : TreeLine). entry_shown line.place) (slice_range lines (e.first - 1) e.last) k no_line d (omega (arith, long_range))
        ∙ member_shown k (omega arith)
        ∙ get_or_default whole k None d (omega (arith, long_whole)))

    shown_is : entries_shown (tree_of dir text) e ≡ whole
    unfolding tree_of
    shown_is = shown_lines

    placed_here : IsMessagePlaced nodes (tags_of_message segments e) (entries_shown (tree_of dir text) e)
    placed_here = placed_of nodes lawful (tags_of_message segments e) (omega (arith, long, ends.0)) (entries_shown (tree_of dir text) e) shown_is

  placed_in : AreMessagesPlaced dir text
  placed_in i table e is =
      let opening = opening_is tags i e (message_held i table e is) in
      placed_here i table e is opening.0 opening.1

-- the segments of the messages of a text are placed so
pub are_placed : (dir : Parts) → IsDirectory dir → (text : List ℕ) → AreMessagesPlaced dir text
are_placed dir directory text = placed_in dir directory text
