-- The steps of segments, one after the other, come to the modes that the extents of messages tell.
use Rattle.std.proofs.Common.{◌≡◌, ℕ, zero, suc, ◌+◌, ◌-◌, ◌<◌, ◌≤◌, true, false, List, [], ◌∷◌, ◌++◌, Option, Some, None, length, take, drop, refl, sym, ap, subst, ◌∙◌, arith, add-one}
use Rattle.std.specs.Prelude.{slice_get, slice_range}
use Rattle.std.specs.Option.{option_map, option_and_then}
use Rattle.std.proofs.lemmas.List.{take_more, drop_more}
use Rattle.std.proofs.lemmas.List.Elements.{All-cons, All-nil}
use Rattle.std.proofs.lemmas.Option.{slice_get_within, get_or_from_slice_get}
use Rattle.edi_tables.specs.declared.tag.Tag.{Tag}
use Rattle.edi_tables.specs.Pairs.{pairs_of}
use Rattle.dir_compile.specs.declared.parts.Parts.{Parts}
use Rattle.dir_compile.specs.Directory.{IsDirectory, tables_of}
use Rattle.seg_lexer.specs.declared.context.Context.{Context}
use Rattle.table_walk.specs.Reading.{reading_of}
use Rattle.table_walk.specs.Steps.{IsShaped, AreCountsUpTo, member_in, pairs_after}
use Rattle.table_walk.proofs.Placing.{counts_after, pairs_first, shaped_after, shaped_first}
use Rattle.envelope_check.proofs.Extents.{message_opened}
use Rattle.segment_records.specs.Segments.{Segment, tags_in}
use Rattle.segment_records.specs.Messages.{mode_after, nodes_at, table_for}
use Rattle.segment_records.specs.Steps.{inner_step, mode_from, opening_step, step_of}
use Rattle.segment_records.specs.Laws.{StepsAreModes}
use Rattle.segment_records.specs.Records.{IsModeOf, kept_from, kept_of}
use Rattle.segment_records.specs.declared.mode.Mode.{Mode}
use Rattle.segment_records.specs.declared.mode.Mode.TheVariants.{Outside, Untabled, Within}
use Rattle.segment_records.proofs.Held.{in_tags, mode_first, mode_is, mode_open, mode_with, table_opened, tag_got, tests_at}
use Rattle.segment_records.proofs.Sites.{opened_at, site_at}
use Rattle.segment_records.proofs.Stepping.{after_closing, after_inner, step_inner, step_leaving, step_opening, unless_is}
use Rattle.segment_records.proofs.Tables.{named_within, table_is}
use Rattle.segment_records.proofs.Turns.{Turn, Tests, opening, closing, leaving, inner, turn_of}
use Rattle.segment_records.proofs.Walks.{pairs_between, pairs_by}

-- a list has a member at each place within it
got : {A : Type 0} (xs : List A) (i : ℕ) → i < length xs → (x : A) × (slice_get xs i ≡ Some x)
got [] i within = absurd (omega arith)
got (x ∷ xs) zero within = (x, refl)
got (x ∷ xs) (suc i) within = got xs i (omega arith)

pub mode_from_append : (dir : Parts) (before : Mode) (one two : List Segment)
    → mode_from dir before (one ++ two) ≡ mode_from dir (mode_from dir before one) two
mode_from_append dir before [] two = refl
mode_from_append dir before (segment ∷ one) two = mode_from_append dir (step_of dir before segment).after one two

pub kept_at : (dir : Parts) (context : Context) (before : Mode) (segments : List Segment) (k : ℕ)
    → slice_get (kept_from dir context before segments) k
    ≡ option_map (kept_of dir context (mode_from dir before (take k segments))) (slice_get segments k)
kept_at dir context before [] k = refl
kept_at dir context before (segment ∷ more) zero = refl
kept_at dir context before (segment ∷ more) (suc k) = kept_at dir context (step_of dir before segment).after more k

pub length_kept : (dir : Parts) (context : Context) (before : Mode) (segments : List Segment)
    → length (kept_from dir context before segments) ≡ length segments
length_kept dir context before [] = refl
length_kept dir context before (segment ∷ more) =
    ap (λ n. suc n) (length_kept dir context (step_of dir before segment).after more)

module _ (dir : Parts) (directory : IsDirectory dir) where
  -- a table that is opened is one of the directory's
  pub opened_within : (segments : List Segment) (a table : ℕ) → table_opened dir segments a ≡ Some table
      → table < length (tables_of dir)
  opened_within segments a table is = by (slice_get segments a) is
    where
      by : (found : Option Segment)
          → option_and_then (λ (opening : Segment). table_for dir opening.components) found ≡ Some table
          → table < length (tables_of dir)
      by None h = absurd (let no : ⊥ = cc in no)
      by (Some segment) h = named_within dir segment.components table h

  module _ (segments : List Segment) (i : ℕ) (segment : Segment) (at : slice_get segments i ≡ Some segment) where
    abbrev tags : List (Option Tag)
    tags = tags_in segments

    within : i < length tags
    within = in_tags dir segments i segment at

    -- UNH alone
    one_tag : slice_range tags i (i + 1) ≡ segment.tag ∷ []
    one_tag =
        let one : (i + 1) - i ≡ suc zero = omega arith in
        ap (λ (n : ℕ). take n (drop i tags)) one ∙ ap (take (suc zero)) (drop_more tags i segment.tag within)
        ∙ ap (λ (t : Option Tag). t ∷ [])
        (get_or_from_slice_get tags i segment.tag segment.tag (tag_got dir segments i segment at))

    opens_with : (found : Option ℕ) → (opening_step dir found).after ≡ mode_with dir segments i (i + 1) found
    opens_with None = refl
    opens_with (Some table) =
        ap (λ (ts : List (Option Tag)). Within table
        (pairs_of (nodes_at dir table) (reading_of (nodes_at dir table) ts))) (sym one_tag)

    stays_with : (a : ℕ) → a < i → (found : Option ℕ) → table_opened dir segments a ≡ found
        → Tests segment.tag false false false false
        → (inner_step dir (mode_with dir segments a i found) segment).after ≡ mode_with dir segments a (i + 1) found
    stays_with a before None is tests =
        unless_is segment false Untabled tests.unt
    stays_with a before (Some table) is tests =
        let nodes = nodes_at dir table in
        after_inner dir table (pairs_between nodes tags a i) segment tests
        ∙ ap (Within table)
        (sym (pairs_by nodes (table_is dir directory table
        (opened_within segments a table is)) tags a i segment.tag before (tag_got dir segments i segment at)))

    stays_open : (held : Option ℕ) → message_opened tags i ≡ held → Tests segment.tag false false false false
        → (inner_step dir (mode_open dir segments i held) segment).after ≡ mode_open dir segments (i + 1) held
    stays_open None is tests = refl
    stays_open (Some a) is tests = stays_with a (opened_at tags i a is).before (table_opened dir segments a) refl tests

    -- the mode after a segment is that of its step
    step_by : (before : Mode) → before ≡ mode_open dir segments i (message_opened tags i) → Turn segment.tag
        → (step_of dir before segment).after ≡ mode_open dir segments (i + 1) (message_opened tags (i + 1))
    step_by before is (opening tests) =
        let site = site_at tags i within true false false true
        (tests_at dir segments i segment at true false false true tests) in
        ap (λ step. step.after) (step_opening dir before segment tests) ∙ opens_with (table_for dir segment.components)
        ∙ ap (λ (found : Option Segment). mode_with dir segments i (i + 1)
        (option_and_then (λ (opening : Segment). table_for dir opening.components) found)) (sym at)
        ∙ ap (mode_open dir segments (i + 1)) (sym site.next)
    step_by before is (closing tests) =
        let site = site_at tags i within false true false true
        (tests_at dir segments i segment at false true false true tests) in
        ap (λ step. step.after) (step_inner dir before segment true true tests) ∙ after_closing dir before segment tests
        ∙ ap (mode_open dir segments (i + 1)) (sym site.next)
    step_by before is (leaving tests) =
        let site = site_at tags i within false false true true
        (tests_at dir segments i segment at false false true true tests) in
        ap (λ step. step.after) (step_leaving dir before segment tests)
        ∙ ap (mode_open dir segments (i + 1)) (sym site.next)
    step_by before is (inner tests) =
        let site = site_at tags i within false false false false
        (tests_at dir segments i segment at false false false false tests) in
        ap (λ step. step.after) (step_inner dir before segment false false tests)
        ∙ ap (λ (mode : Mode). (inner_step dir mode segment).after) is ∙ stays_open (message_opened tags i) refl tests
        ∙ ap (mode_open dir segments (i + 1)) (sym site.next)

  pub steps_are_modes : (segments : List Segment) → StepsAreModes dir segments
  steps_are_modes segments i segment at =
      let within : i < length segments = slice_get_within segments i segment at in
      mode_is dir segments (i + 1) (omega arith)
      ∙ sym (step_by segments i segment at (mode_after dir segments i) (mode_is dir segments i (omega arith))
      (turn_of segment.tag))

  -- a step from a mode of the directory leaves one, with counts that are greater by one at most
  module _ (most : ℕ) (segment : Segment) where
    opening_kept : (found : Option ℕ) → table_for dir segment.components ≡ found
        → IsModeOf dir (most + 1) (opening_step dir found).after
    opening_kept None is = tt
    opening_kept (Some table) is =
        let nodes = nodes_at dir table in
        let within = named_within dir segment.components table is in
        let lawful = table_is dir directory table within in
        let unh : ℕ × ℕ = (0, 1) in (
          within,
          shaped_first nodes lawful,
          subst (AreCountsUpTo (most + 1)) (pairs_first nodes lawful)
              (All-cons (λ (pair : ℕ × ℕ). pair.1 ≤ most + 1) unh [] (omega arith)
              (All-nil (λ (pair : ℕ × ℕ). pair.1 ≤ most + 1))),
        )

    shaped_kept : (table : ℕ) (pairs : List (ℕ × ℕ)) (found : Option ℕ) → table < length (tables_of dir)
        → found ≡ member_in (nodes_at dir table) pairs segment.tag → IsShaped (nodes_at dir table) pairs
        → IsShaped (nodes_at dir table) (pairs_after (nodes_at dir table) pairs found)
    shaped_kept table pairs None low is shaped = shaped
    shaped_kept table pairs (Some c) low is shaped =
        shaped_after (nodes_at dir table) pairs segment.tag (table_is dir directory table low) c is

    inner_kept : (before : Mode) → Tests segment.tag false false false false → IsModeOf dir most before
        → IsModeOf dir (most + 1) (inner_step dir before segment).after
    inner_kept Outside tests of = tt
    inner_kept Untabled tests of = subst (IsModeOf dir (most + 1)) (sym (unless_is segment false Untabled tests.unt)) tt
    inner_kept (Within table pairs) tests of =
        let nodes = nodes_at dir table in
        let member = member_in nodes pairs segment.tag in
        subst (IsModeOf dir (most + 1)) (sym (after_inner dir table pairs segment tests)) (
          of.0,
          shaped_kept table pairs member of.0 refl of.1,
          counts_after nodes pairs member most of.2,
        )

    kept_by : (before : Mode) → Turn segment.tag → IsModeOf dir most before
        → IsModeOf dir (most + 1) (step_of dir before segment).after
    kept_by before (opening tests) of =
        subst (λ step. IsModeOf dir (most + 1) step.after) (sym (step_opening dir before segment tests))
        (opening_kept (table_for dir segment.components) refl)
    kept_by before (closing tests) of =
        subst (IsModeOf dir (most + 1))
        (sym (ap (λ step. step.after) (step_inner dir before segment true true tests)
        ∙ after_closing dir before segment tests)) tt
    kept_by before (leaving tests) of =
        subst (λ step. IsModeOf dir (most + 1) step.after) (sym (step_leaving dir before segment tests)) tt
    kept_by before (inner tests) of =
        subst (λ step. IsModeOf dir (most + 1) step.after) (sym (step_inner dir before segment false false tests))
        (inner_kept before tests of)

    pub step_keeps : (before : Mode) → IsModeOf dir most before
        → IsModeOf dir (most + 1) (step_of dir before segment).after
    step_keeps before of = kept_by before (turn_of segment.tag) of

  -- so each mode of a text belongs to the directory, and no count of it is greater than the number of segments before
  pub mode_belongs : (segments : List Segment) (i : ℕ) → i ≤ length segments
      → IsModeOf dir i (mode_after dir segments i)
  mode_belongs segments zero within = subst (IsModeOf dir 0) (sym (mode_first dir segments)) tt
  mode_belongs segments (suc i) within =
      let found = got segments i (omega arith) in
      subst (λ (n : ℕ). IsModeOf dir n (mode_after dir segments n)) (add-one i)
      (subst (IsModeOf dir (i + 1)) (sym (steps_are_modes segments i found.0 found.1))
      (step_keeps i found.0 (mode_after dir segments i) (mode_belongs segments i (omega arith))))

  -- taking steps from outside comes to the same mode
  pub mode_from_is : (segments : List Segment) (k : ℕ) → k ≤ length segments
      → mode_from dir Outside (take k segments) ≡ mode_after dir segments k
  mode_from_is segments zero within = sym (mode_first dir segments)
  mode_from_is segments (suc k) within =
      let found = got segments k (omega arith) in
      let segment = found.0 in
      let more : take (k + 1) segments ≡ take k segments ++ segment ∷ [] =
      take_more segments k segment (omega arith)
      ∙ ap (λ (s : Segment). take k segments ++ s ∷ []) (get_or_from_slice_get segments k segment segment found.1) in
      subst (λ (n : ℕ). mode_from dir Outside (take n segments) ≡ mode_after dir segments n) (add-one k)
      (ap (mode_from dir Outside) more ∙ mode_from_append dir Outside (take k segments) (segment ∷ [])
      ∙ ap (λ (mode : Mode). (step_of dir mode segment).after) (mode_from_is segments k (omega arith))
      ∙ sym (steps_are_modes segments k segment found.1))

  -- what is kept of each segment is kept after the mode before it
  pub kept_is : (context : Context) (segments : List Segment) (k : ℕ) (segment : Segment)
      → slice_get segments k ≡ Some segment
      → slice_get (kept_from dir context Outside segments) k
      ≡ Some (kept_of dir context (mode_after dir segments k) segment)
  kept_is context segments k segment at =
      let within : k < length segments = slice_get_within segments k segment at in
      kept_at dir context Outside segments k
      ∙ ap (λ (mode : Mode). option_map (kept_of dir context mode) (slice_get segments k))
      (mode_from_is segments k (omega arith))
      ∙ ap (option_map (kept_of dir context (mode_after dir segments k))) at
