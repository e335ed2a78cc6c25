-- What is wrong in the structure of messages at each segment is what the steps tell.
use Rattle.std.proofs.Common.{◌≡◌, ℕ, ◌+◌, ◌-◌, ◌<◌, ◌≤◌, Bool, true, false, cond, List, [], ◌++◌, Option, Some, None, length, map, refl, sym, ap, ◌∙◌, arith}
use Rattle.std.specs.Prelude.{slice_get, ◌==◌, if◌then◌else◌}
use Rattle.std.proofs.lemmas.List.{append-nil}
use Rattle.std.proofs.lemmas.Option.{slice_get_within}
use Rattle.edi_tables.specs.declared.tag.Tag.{Tag}
use Rattle.edi_tables.specs.declared.table.Node.{Node}
use Rattle.edi_tables.specs.Extents.{Extent}
use Rattle.edi_tables.specs.Rows.{IsTable}
use Rattle.dir_compile.specs.declared.parts.Parts.{Parts}
use Rattle.dir_compile.specs.Directory.{IsDirectory}
use Rattle.envelope_check.proofs.Extents.{closes_message, message_from, message_opened}
use Rattle.table_walk.specs.Errors.{Fault, errors_of_placed, open_faults, structure_errors_of}
use Rattle.table_walk.specs.Errors.Fault.{Missing}
use Rattle.table_walk.specs.Steps.{is_over_in, member_in, missing_in}
use Rattle.segment_records.specs.Segments.{Segment, tags_in}
use Rattle.segment_records.specs.Messages.{Position, structure_errors_at, faults_in, message_faults, mode_after, nodes_at, position_at}
use Rattle.segment_records.specs.Steps.{Step, step_of}
use Rattle.segment_records.specs.Laws.{StepsTellFaults, end_faults, ends_after, faults_of_member, is_walked, step_faults}
use Rattle.segment_records.specs.declared.mode.Mode.{Mode}
use Rattle.segment_records.specs.declared.mode.Mode.TheVariants.{Outside, Untabled, Within}
use Rattle.segment_records.proofs.Ends.{message_reaches}
use Rattle.segment_records.proofs.Held.{in_tags, mode_is, mode_open, mode_with, position_held, position_is, position_with, table_opened, tag_got, tests_at}
use Rattle.segment_records.proofs.MessageFaults.{told_closed, told_ended, told_first, told_later, told_parts}
use Rattle.segment_records.proofs.ModeLaws.{opened_within}
use Rattle.segment_records.proofs.Sites.{first_is, opened_at, site_at, unt_ends}
use Rattle.segment_records.proofs.Stepping.{step_inner}
use Rattle.segment_records.proofs.Tables.{table_is}
use Rattle.segment_records.proofs.Told.{told}
use Rattle.segment_records.proofs.Turns.{Turn, Tests, opening, closing, leaving, inner, turn_of}
use Rattle.segment_records.proofs.Walks.{pairs_between, placed_between}

-- what is missing at no end
quiet : (b : Bool) → (if b then map Missing (let no : List ℕ = [] in no) else []) ≡ []
quiet true = refl
quiet false = refl

-- a segment with these pairs before it
abbrev member_told : List Node → List (ℕ × ℕ) → Option Tag → List Fault
member_told nodes pairs tag =
    let member = member_in nodes pairs tag in
    faults_of_member member (missing_in nodes pairs member) (is_over_in nodes pairs member)

-- a segment that opens or leaves a message has no fault of its step
not_walked : (before : Mode) (segment : Segment) → ((mode : Mode) → is_walked mode segment ≡ false) → (step : Step)
    → step_faults before segment step ≡ []
not_walked before segment walks step =
    ap (λ (b : Bool). if b then faults_of_member step.entry step.missing step.over else []) (walks before)

unopened : (segment : Segment) → Tests segment.tag true false false true → (before : Mode)
    → is_walked before segment ≡ false
unopened segment tests Outside = refl
unopened segment tests Untabled = refl
unopened segment tests (Within table pairs) = rw tests.unh refl

unleft : (segment : Segment) → Tests segment.tag false false true true → (before : Mode)
    → is_walked before segment ≡ false
unleft segment tests Outside = refl
unleft segment tests Untabled = refl
unleft segment tests (Within table pairs) = rw (tests.unh, tests.out) refl

module _ (dir : Parts) (directory : IsDirectory dir) (segments : List Segment) (i : ℕ) (segment : Segment)
    (at : slice_get segments i ≡ Some segment) where
  abbrev tags : List (Option Tag)
  tags = tags_in segments

  in_segments : i < length segments
  in_segments = slice_get_within segments i segment at

  within : i < length tags
  within = in_tags dir segments i segment at

  -- the faults at a place in a position
  abbrev told_in : Position → List Fault
  told_in position = map (λ error. error.fault) (faults_in dir segments i position)

  -- what is reported by the step and by the end
  abbrev step_told : Mode → List Fault
  step_told before = step_faults before segment (step_of dir before segment)

  abbrev end_told : Mode → List Fault
  end_told after = end_faults dir tags i after

  told_walked : (table : ℕ) (pairs : List (ℕ × ℕ)) (closes stops : Bool) → Tests segment.tag false closes false stops
      → step_told (Within table pairs) ≡ member_told (nodes_at dir table) pairs segment.tag
  told_walked table pairs closes stops tests =
      let before : Mode = Within table pairs in
      let walked : is_walked before segment ≡ true = rw (tests.unh, tests.out) refl in
      ap (λ (b : Bool). if b then faults_of_member (step_of dir before segment).entry
      (step_of dir before segment).missing (step_of dir before segment).over else []) walked
      ∙ ap (λ (step : Step). faults_of_member step.entry step.missing step.over)
      (step_inner dir before segment closes stops tests)

  -- in a message with a table
  module _ (a table : ℕ) (opened : table_opened dir segments a ≡ Some table) where
    abbrev nodes : List Node
    nodes = nodes_at dir table

    abbrev e : Extent
    e = message_from tags a

    lawful : IsTable nodes
    lawful = table_is dir directory table (opened_within dir directory segments a table opened)

    -- all that is wrong in it at place i
    abbrev whole_told : List Fault
    whole_told = told (λ k. e.first + k == i + 1) (errors_of_placed nodes (placed_between nodes tags a e.last) e.closed)

    whole_is : map (λ error. error.fault) (message_faults dir segments table e i) ≡ whole_told
    unfolding structure_errors_of
    whole_is =
        let back : e.first - 1 ≡ a = omega (arith, first_is tags a) in
        ap (λ (k : ℕ). told (λ n. e.first + n == i + 1)
        (errors_of_placed nodes (placed_between nodes tags k e.last) e.closed)) back

    abbrev end_part : List Fault
    end_part = cond (e.last == i + 1) (open_faults nodes (placed_between nodes tags a e.last) e.closed) []

    -- at UNH
    whole_first : a ≡ i → i + 1 ≤ e.last → e.last ≤ length tags → whole_told ≡ end_part
    whole_first same reaches high =
        let low : a ≤ i = omega arith in
        told_parts nodes lawful tags e a i (first_is tags a) low reaches high
        ∙ ap (λ (more : List Fault). more ++ end_part)
        (told_first nodes lawful tags e a i (first_is tags a) low reaches high same)

    -- at a later segment
    whole_later : a < i → i + 1 ≤ e.last → e.last ≤ length tags
        → whole_told ≡ member_told nodes (pairs_between nodes tags a i) segment.tag ++ end_part
    whole_later after reaches high =
        let low : a ≤ i = omega arith in
        told_parts nodes lawful tags e a i (first_is tags a) low reaches high
        ∙ ap (λ (more : List Fault). more ++ end_part)
        (told_later nodes lawful tags e a i (first_is tags a) low reaches high segment.tag
        (tag_got dir segments i segment at) after)

    -- where the message is open after it
    end_open : a ≤ i → message_opened tags (i + 1) ≡ Some a
        → end_part ≡ end_told (Within table (pairs_between nodes tags a (i + 1)))
    end_open low is =
        let by = message_reaches tags i a within is in
        told_ended nodes lawful tags e a i (first_is tags a) low by.low by.high (ends_after tags i) by.test

    end_closed : a ≤ i → i + 1 ≤ e.last → e.last ≤ length tags → e.closed ≡ true → end_part ≡ []
    end_closed low reaches high closed = told_closed nodes lawful tags e a i (first_is tags a) low reaches high closed

  -- at UNH
  opening_told : (found : Option ℕ) → table_opened dir segments i ≡ found → message_opened tags (i + 1) ≡ Some i
      → told_in (position_with found (message_from tags i)) ≡ end_told (mode_with dir segments i (i + 1) found)
  opening_told None is next = sym (quiet (ends_after tags i))
  opening_told (Some table) is next =
      let by = message_reaches tags i i within next in
      whole_is i table is ∙ whole_first i table is refl by.low by.high ∙ end_open i table is (omega arith) next

  -- at a segment inside of a message
  inner_told : (a : ℕ) (found : Option ℕ) → table_opened dir segments a ≡ found → a < i
      → message_opened tags (i + 1) ≡ Some a
      → Tests segment.tag false false false false
      → told_in (position_with found (message_from tags a))
      ≡ step_told (mode_with dir segments a i found) ++ end_told (mode_with dir segments a (i + 1) found)
  inner_told a None is before next tests = sym (quiet (ends_after tags i))
  inner_told a (Some table) is before next tests =
      let by = message_reaches tags i a within next in
      let pairs = pairs_between (nodes_at dir table) tags a i in
      whole_is a table is ∙ whole_later a table is before by.low by.high
      ∙ ap (λ (more : List Fault). member_told (nodes_at dir table) pairs segment.tag ++ more)
      (end_open a table is (omega arith) next)
      ∙ ap (λ (front : List Fault). front ++ end_told
      (Within table (pairs_between (nodes_at dir table) tags a (i + 1))))
      (sym (told_walked table pairs false false tests))

  -- at a UNT
  closing_told : (a : ℕ) (found : Option ℕ) → table_opened dir segments a ≡ found → message_opened tags i ≡ Some a
      → Tests segment.tag false true false true
      → told_in (position_with found (message_from tags a)) ≡ step_told (mode_with dir segments a i found)
  closing_told a None is before tests = refl
  closing_told a (Some table) is before tests =
      let it = opened_at tags i a before in
      let unt : closes_message tags i ≡ true = (tests_at dir segments i segment at false true false true tests).unt in
      let closed = unt_ends tags i a within unt before in
      let last : (message_from tags a).last ≡ i + 1 = ap (λ (e : Extent). e.last) closed in
      let shut : (message_from tags a).closed ≡ true = ap (λ (e : Extent). e.closed) closed in
      let pairs = pairs_between (nodes_at dir table) tags a i in
      let reaches : i + 1 ≤ (message_from tags a).last = omega arith in
      let high : (message_from tags a).last ≤ length tags = omega (arith, within) in
      whole_is a table is ∙ whole_later a table is it.before reaches high
      ∙ ap (λ (more : List Fault). member_told (nodes_at dir table) pairs segment.tag ++ more)
      (end_closed a table is (omega (arith, it.before)) reaches high shut)
      ∙ append-nil (member_told (nodes_at dir table) pairs segment.tag) ∙ sym (told_walked table pairs true true tests)

  abbrev before_is : Mode
  before_is = mode_open dir segments i (message_opened tags i)

  -- where no message is open, nothing is reported
  inner_held : (held : Option ℕ) → message_opened tags i ≡ held → message_opened tags (i + 1) ≡ held
      → Tests segment.tag false false false false
      → told_in (position_held dir segments held)
      ≡ step_told (mode_open dir segments i held) ++ end_told (mode_open dir segments (i + 1) held)
  inner_held None is next tests = sym (quiet (ends_after tags i))
  inner_held (Some a) is next tests =
      inner_told a (table_opened dir segments a) refl (opened_at tags i a is).before next tests

  closing_held : (held : Option ℕ) → message_opened tags i ≡ held → Tests segment.tag false true false true
      → told_in (position_held dir segments held) ≡ step_told (mode_open dir segments i held)
  closing_held None is tests = refl
  closing_held (Some a) is tests = closing_told a (table_opened dir segments a) refl is tests

  -- nothing is reported at an end after which it is outside
  end_outside : (faults : List Fault) → faults ≡ faults ++ end_told Outside
  end_outside faults =
      sym (append-nil faults) ∙ ap (λ (more : List Fault). faults ++ more) (sym (quiet (ends_after tags i)))

  told_at : Turn segment.tag → told_in (position_at dir segments i)
      ≡ step_told before_is ++ end_told (mode_open dir segments (i + 1) (message_opened tags (i + 1)))
  told_at (opening tests) =
      let site = site_at tags i within true false false true
      (tests_at dir segments i segment at true false false true tests) in
      ap told_in (position_is dir segments i (Some i) site.at)
      ∙ opening_told (table_opened dir segments i) refl site.next
      ∙ ap (λ (more : List Fault). more ++ end_told (mode_open dir segments (i + 1) (Some i)))
      (sym (not_walked before_is segment (unopened segment tests) (step_of dir before_is segment)))
      ∙ ap (λ (held : Option ℕ). step_told before_is ++ end_told (mode_open dir segments (i + 1) held)) (sym site.next)
  told_at (closing tests) =
      let site = site_at tags i within false true false true
      (tests_at dir segments i segment at false true false true tests) in
      ap told_in (position_is dir segments i (message_opened tags i) site.at)
      ∙ closing_held (message_opened tags i) refl tests
      ∙ end_outside (step_told before_is)
      ∙ ap (λ (held : Option ℕ). step_told before_is ++ end_told (mode_open dir segments (i + 1) held)) (sym site.next)
  told_at (leaving tests) =
      let site = site_at tags i within false false true true
      (tests_at dir segments i segment at false false true true tests) in
      ap told_in (position_is dir segments i None site.at)
      ∙ sym (not_walked before_is segment (unleft segment tests) (step_of dir before_is segment))
      ∙ end_outside (step_told before_is)
      ∙ ap (λ (held : Option ℕ). step_told before_is ++ end_told (mode_open dir segments (i + 1) held)) (sym site.next)
  told_at (inner tests) =
      let site = site_at tags i within false false false false
      (tests_at dir segments i segment at false false false false tests) in
      ap told_in (position_is dir segments i (message_opened tags i) site.at)
      ∙ inner_held (message_opened tags i) refl site.next tests
      ∙ ap (λ (held : Option ℕ). step_told before_is ++ end_told (mode_open dir segments (i + 1) held)) (sym site.next)

  faults_told : map (λ error. error.fault) (structure_errors_at dir segments i)
      ≡ step_told (mode_after dir segments i) ++ end_told (mode_after dir segments (i + 1))
  unfolding structure_errors_at
  faults_told =
      told_at (turn_of segment.tag)
      ∙ ap (λ (mode : Mode). step_told mode ++ end_told (mode_open dir segments (i + 1) (message_opened tags (i + 1))))
      (sym (mode_is dir segments i (omega (arith, in_segments))))
      ∙ ap (λ (mode : Mode). step_told (mode_after dir segments i) ++ end_told mode)
      (sym (mode_is dir segments (i + 1) (omega (arith, in_segments))))

pub steps_tell_faults : (dir : Parts) → IsDirectory dir → (segments : List Segment) → StepsTellFaults dir segments
steps_tell_faults dir directory segments i segment at = faults_told dir directory segments i segment at
