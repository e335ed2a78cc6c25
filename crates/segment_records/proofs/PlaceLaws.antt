-- Where each segment is in the tree is what the steps tell.
use Rattle.std.proofs.Common.{◌≡◌, ℕ, ◌+◌, ◌-◌, ◌<◌, ◌≤◌, Bool, true, false, List, [], ◌∷◌, ◌++◌, Option, Some, None, length, take, refl, sym, ap, ◌∙◌, arith}
use Rattle.std.specs.Prelude.{codes, slice_get, slice_range, if◌then◌else◌}
use Rattle.std.specs.Option.{option_and_then}
use Rattle.std.proofs.lemmas.Option.{slice_get_within, get_or_from_slice_get}
use Rattle.edi_tables.specs.declared.tag.Tag.{Tag}
use Rattle.edi_tables.specs.declared.table.Node.{Node}
use Rattle.edi_tables.specs.Extents.{Extent}
use Rattle.edi_tables.specs.Pairs.{count_in}
use Rattle.edi_tables.specs.Placement.{group_count}
use Rattle.edi_tables.specs.Rows.{IsTable}
use Rattle.edi_tables.specs.Walk.{groups_round, is_trigger_at, is_trigger_of, parent_at}
use Rattle.edi_tables.proofs.Placements.{first_outside}
use Rattle.edi_tables.proofs.Walking.{groups_round_none}
use Rattle.dir_compile.specs.declared.parts.Parts.{Parts}
use Rattle.dir_compile.specs.Directory.{IsDirectory}
use Rattle.error_ledger.specs.declared.tree.TreePlace.{TreePlace}
use Rattle.error_ledger.specs.declared.tree.TreePlace.TheVariants as place
use Rattle.error_ledger.specs.declared.tree.GroupMark.{GroupMark}
use Rattle.envelope_check.proofs.Extents.{closes_message, message_from, message_opened}
use Rattle.table_walk.specs.Reading.{member_at, reading_of}
use Rattle.table_walk.specs.Steps.{member_in}
use Rattle.table_walk.proofs.Readings.{reading_is}
use Rattle.segment_records.specs.Segments.{Segment, tags_in}
use Rattle.segment_records.specs.Messages.{mode_after, nodes_at, position_at, table_for}
use Rattle.segment_records.specs.Places.{group_number, inner_place, opened_by, opening_place, place_at, place_by, place_in, tree_place_of, place_with}
use Rattle.segment_records.specs.Steps.{Step, is_named, is_no_part, opening_step, step_of}
use Rattle.segment_records.specs.Laws.{StepsTellPlaces}
use Rattle.segment_records.specs.declared.mode.Mode.{Mode}
use Rattle.segment_records.specs.declared.mode.Mode.TheVariants.{Within}
use Rattle.segment_records.proofs.Counted.{member_count}
use Rattle.segment_records.proofs.Ends.{message_reaches}
use Rattle.segment_records.proofs.Held.{in_tags, mode_is, mode_open, mode_with, position_held, position_is, position_with, table_opened, tag_got, tests_at}
use Rattle.segment_records.proofs.ModeLaws.{opened_within}
use Rattle.segment_records.proofs.Prefixes.{length_range}
use Rattle.segment_records.proofs.Sites.{first_is, opened_at, site_at, unt_ends}
use Rattle.segment_records.proofs.Stepping.{step_inner, step_opening}
use Rattle.segment_records.proofs.Tables.{table_is}
use Rattle.segment_records.proofs.Turns.{Turn, Tests, opening, closing, leaving, inner, turn_of}
use Rattle.segment_records.proofs.Walks.{is_member, member_between, member_by, member_next, pairs_between, placed_between, sound_between, with_between}

-- the mark of a group, where an entry opens it
abbrev mark_if : Bool → ℕ → ℕ → Option GroupMark
mark_if trigger number count = if trigger then Some (record { number = number; count = count }) else None

-- a place with counts that agree on the group that its entry opens
module _ (nodes : List Node) (one other : ℕ → ℕ) where
  mark_same : (entry : ℕ) → (is_trigger_at nodes entry ≡ true → one (entry - 1) ≡ other (entry - 1))
      → (trigger : Bool) → is_trigger_at nodes entry ≡ trigger
      → mark_if trigger (group_number nodes (entry - 1)) (one (entry - 1))
      ≡ mark_if trigger (group_number nodes (entry - 1)) (other (entry - 1))
  mark_same entry same true is = ap (mark_if true (group_number nodes (entry - 1))) (same is)
  mark_same entry same false is = refl

  place_same : (found : Option ℕ)
      → ((c : ℕ) → found ≡ Some c → is_trigger_at nodes c ≡ true → one (c - 1) ≡ other (c - 1))
      → place_with nodes one found ≡ place_with nodes other found
  place_same None same = refl
  place_same (Some entry) same =
      ap (place.Placed entry (length (groups_round nodes entry)))
      (mark_same entry (same entry refl) (is_trigger_at nodes entry) refl)

-- UNH is in no group, and opens none
module _ (nodes : List Node) (table : IsTable nodes) where
  first_parent : parent_at nodes 0 ≡ None
  first_parent = first_outside nodes table (parent_at nodes 0) refl

  first_place : (count : ℕ → ℕ) → place_with nodes count (Some 0) ≡ place.Placed 0 0 None
  first_place count =
      ap (λ (groups : List ℕ). place.Placed 0 (length groups) (opened_by nodes count 0))
      (groups_round_none nodes table 0 first_parent)
      ∙ ap (λ (parent : Option ℕ). place.Placed 0 0
      (mark_if (is_trigger_of parent 0) (group_number nodes (0 - 1)) (count (0 - 1)))) first_parent

  first_in : (tags : List (Option Tag)) → 0 < length tags → (k : ℕ) → k ≡ 0
      → place_in nodes (reading_of nodes tags) k ≡ place.Placed 0 0 None
  first_in tags some k is =
      let placed = reading_of nodes tags in
      let member : member_at placed 0 ≡ Some 0 =
      get_or_from_slice_get placed 0 (Some 0) None (reading_is nodes tags some).first in
      ap (place_in nodes placed) is ∙ ap (place_with nodes (group_count nodes (take (0 + 1) placed))) member
      ∙ first_place (group_count nodes (take (0 + 1) placed))

  -- a later segment, by the pairs before it
  module _ (tags : List (Option Tag)) (a i b : ℕ) (tag : Option Tag) (at : slice_get tags i ≡ Some tag) (after : a < i)
      (reaches : i + 1 ≤ b) (high : b ≤ length tags) where
    abbrev pairs : List (ℕ × ℕ)
    pairs = pairs_between nodes tags a i

    abbrev member : Option ℕ
    member = member_next nodes table tags a i tag after at

    later_in : (k : ℕ) → k ≡ i - a → place_in nodes (placed_between nodes tags a b) k
        ≡ place_with nodes (λ group. count_in pairs group + 1) (member_in nodes pairs tag)
    later_in k is =
        let placed = placed_between nodes tags a i in
        let whole = placed_between nodes tags a b in
        ap (place_in nodes whole) is
        ∙ ap (λ (ms : List (Option ℕ)). place_with nodes (group_count nodes ms) (member_at whole (i - a)))
        (with_between nodes table tags a i tag after at b reaches high)
        ∙ ap (place_with nodes (group_count nodes (placed ++ member ∷ [])))
        (member_between nodes table tags a i tag after at b reaches high)
        ∙ place_same nodes (group_count nodes (placed ++ member ∷ [])) (λ group. count_in pairs group + 1) member
        (member_count nodes table placed (sound_between nodes table tags a i tag after at) tag member
        (is_member nodes table tags a i tag after at))
        ∙ ap (place_with nodes (λ group. count_in pairs group + 1)) (member_by nodes table tags a i tag after at)

-- a place by a step, by the tag of the segment
module _ (dir : Parts) (before : Mode) (segment : Segment) (step : Step) where
  by_tests : (opens leaves : Bool) → is_named (codes "UNH") segment ≡ opens → is_no_part segment ≡ leaves
      → place_by dir before segment step
      ≡ (if opens then opening_place step.entry else
      (if leaves then place.Outside else inner_place dir before step.entry))
  unfolding place_by
  by_tests opens leaves is_opening is_leaving =
      ap (λ (b : Bool). if b then opening_place step.entry else
      (if is_no_part segment then place.Outside else inner_place dir before step.entry)) is_opening
      ∙ ap (λ (b : Bool). if opens then opening_place step.entry else
      (if b then place.Outside else inner_place dir before step.entry)) is_leaving

module _ (dir : Parts) (directory : IsDirectory dir) (segments : List Segment) (i : ℕ) (segment : Segment)
    (at : slice_get segments i ≡ Some segment) where
  abbrev tags : List (Option Tag)
  tags = tags_in segments

  within : i < length tags
  within = in_tags dir segments i segment at

  lawful : (a table : ℕ) → table_opened dir segments a ≡ Some table → IsTable (nodes_at dir table)
  lawful a table opened = table_is dir directory table (opened_within dir directory segments a table opened)

  -- the place in the message from place a on, with this table, if it has one
  abbrev placed_with : ℕ → Option ℕ → TreePlace
  placed_with a found = tree_place_of dir segments i (position_with found (message_from tags a))

  back : (a : ℕ) → (message_from tags a).first - 1 ≡ a
  back a = omega (arith, first_is tags a)

  -- at UNH
  opening_placed : (found : Option ℕ) → table_opened dir segments i ≡ found → message_opened tags (i + 1) ≡ Some i
      → placed_with i found ≡ opening_place (opening_step dir found).entry
  opening_placed None is next = refl
  opening_placed (Some table) is next =
      let e = message_from tags i in
      let nodes = nodes_at dir table in
      let by = message_reaches tags i i within next in
      let some : 0 < length (slice_range tags (e.first - 1) e.last) =
      omega (arith, length_range tags (e.first - 1) e.last by.high, by.low, by.high, first_is tags i) in
      first_in nodes (lawful i table is) (slice_range tags (e.first - 1) e.last) some (i + 1 - e.first)
      (omega (arith, first_is tags i))

  -- at a later segment of a message, which reaches past it
  later_placed : (a : ℕ) (found : Option ℕ) → table_opened dir segments a ≡ found → a < i
      → i + 1 ≤ (message_from tags a).last
      → (message_from tags a).last ≤ length tags → (closes stops : Bool) → Tests segment.tag false closes false stops
      → placed_with a found
      ≡ inner_place dir (mode_with dir segments a i found)
      (step_of dir (mode_with dir segments a i found) segment).entry
  later_placed a None is before reaches high closes stops tests = refl
  later_placed a (Some table) is before reaches high closes stops tests =
      let e = message_from tags a in
      let nodes = nodes_at dir table in
      let pairs = pairs_between nodes tags a i in
      ap (λ (k : ℕ). place_in nodes (placed_between nodes tags k e.last) (i + 1 - e.first)) (back a)
      ∙ later_in nodes (lawful a table is) tags a i e.last segment.tag
      (tag_got dir segments i segment at) before reaches high (i + 1 - e.first)
      (omega (arith, first_is tags a))
      ∙ ap (λ (step : Step). inner_place dir (Within table pairs) step.entry)
      (sym (step_inner dir (Within table pairs) segment closes stops tests))

  -- in the message that is open, if there is one
  later_held : (held : Option ℕ) → message_opened tags i ≡ held
      → ((a : ℕ) → held ≡ Some a → (i + 1 ≤ (message_from tags a).last) × ((message_from tags a).last ≤ length tags))
      → (closes stops : Bool) → Tests segment.tag false closes false stops
      → tree_place_of dir segments i (position_held dir segments held)
      ≡ inner_place dir (mode_open dir segments i held) (step_of dir (mode_open dir segments i held) segment).entry
  later_held None is reaches closes stops tests = refl
  later_held (Some a) is reaches closes stops tests =
      let ends = reaches a refl in
      later_placed a (table_opened dir segments a) refl (opened_at tags i a is).before ends.0 ends.1 closes stops tests

  inner_ends : message_opened tags (i + 1) ≡ message_opened tags i → (a : ℕ) → message_opened tags i ≡ Some a
      → (i + 1 ≤ (message_from tags a).last) × ((message_from tags a).last ≤ length tags)
  inner_ends next a is = let by = message_reaches tags i a within (next ∙ is) in (by.low, by.high)

  closing_ends : Tests segment.tag false true false true → (a : ℕ) → message_opened tags i ≡ Some a
      → (i + 1 ≤ (message_from tags a).last) × ((message_from tags a).last ≤ length tags)
  closing_ends tests a is =
      let unt : closes_message tags i ≡ true = (tests_at dir segments i segment at false true false true tests).unt in
      let closed = unt_ends tags i a within unt is in
      let last : (message_from tags a).last ≡ i + 1 = ap (λ (e : Extent). e.last) closed in
      (omega arith, omega (arith, within))

  abbrev before : Mode
  before = mode_open dir segments i (message_opened tags i)

  placed_at : Turn segment.tag
      → tree_place_of dir segments i (position_at dir segments i) ≡ place_by dir before segment (step_of dir before segment)
  placed_at (opening tests) =
      let site = site_at tags i within true false false true
      (tests_at dir segments i segment at true false false true tests) in
      ap (tree_place_of dir segments i) (position_is dir segments i (Some i) site.at)
      ∙ opening_placed (table_opened dir segments i) refl site.next
      ∙ ap (λ (found : Option Segment). opening_place
      (opening_step dir (option_and_then (λ (s : Segment). table_for dir s.components) found)).entry) at
      ∙ ap (λ (step : Step). opening_place step.entry) (sym (step_opening dir before segment tests))
      ∙ sym (by_tests dir before segment (step_of dir before segment) true false tests.unh tests.out)
  placed_at (closing tests) =
      let site = site_at tags i within false true false true
      (tests_at dir segments i segment at false true false true tests) in
      ap (tree_place_of dir segments i) (position_is dir segments i (message_opened tags i) site.at)
      ∙ later_held (message_opened tags i) refl (closing_ends tests) true true tests
      ∙ sym (by_tests dir before segment (step_of dir before segment) false false tests.unh tests.out)
  placed_at (leaving tests) =
      let site = site_at tags i within false false true true
      (tests_at dir segments i segment at false false true true tests) in
      ap (tree_place_of dir segments i) (position_is dir segments i None site.at)
      ∙ sym (by_tests dir before segment (step_of dir before segment) false true tests.unh tests.out)
  placed_at (inner tests) =
      let site = site_at tags i within false false false false
      (tests_at dir segments i segment at false false false false tests) in
      ap (tree_place_of dir segments i) (position_is dir segments i (message_opened tags i) site.at)
      ∙ later_held (message_opened tags i) refl (inner_ends site.next) false false tests
      ∙ sym (by_tests dir before segment (step_of dir before segment) false false tests.unh tests.out)

  places_told : place_at dir segments i
      ≡ place_by dir (mode_after dir segments i) segment (step_of dir (mode_after dir segments i) segment)
  unfolding place_at
  places_told =
      placed_at (turn_of segment.tag)
      ∙ ap (λ (mode : Mode). place_by dir mode segment (step_of dir mode segment))
      (sym (mode_is dir segments i (omega (arith, slice_get_within segments i segment at))))

pub steps_tell_places : (dir : Parts) → IsDirectory dir → (segments : List Segment) → StepsTellPlaces dir segments
steps_tell_places dir directory segments i segment at = places_told dir directory segments i segment at
