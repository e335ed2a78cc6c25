-- Records that are placed again after another mode are those of their segments after it, and so are those that stay.
use Rattle.std.proofs.Common.{◌≡◌, ◌⊎◌, ℕ, zero, suc, ◌-◌, ◌<◌, true, false, List, [], ◌∷◌, ◌++◌, length, take, drop, Some, inl, inr, refl, sym, ap, ◌∙◌, arith, take-append-drop}
use Rattle.std.specs.Prelude.{codes}
use Rattle.std.specs.List.{slice_get}
use Rattle.std.specs.Option.{ForSome, option_map_or}
use Rattle.std.proofs.lemmas.Bool.{cases_Bool, or_cases}
use Rattle.dir_compile.specs.declared.parts.Parts.{Parts}
use Rattle.seg_lexer.specs.declared.context.Context.{Context}
use Rattle.segment_records.specs.Records.{Kept, kept_from, kept_of}
use Rattle.segment_records.specs.Segments.{Segment}
use Rattle.segment_records.specs.Steps.{Step, inner_step, is_named, is_no_part, mode_from, step_of}
use Rattle.segment_records.specs.Taken.{read_as}
use Rattle.segment_records.specs.declared.mode.Mode.{Mode}
use Rattle.segment_records.proofs.Taking.{step_inside}
use Rattle.segment_records.specs.Bounds.{bounds_message}
use Rattle.segment_records.proofs.Following.{bounds_none}
use Rattle.kept_text.specs.Again.{last_mode, placed_from}
use Rattle.kept_text.proofs.Records.{alike_at_unh, alike_outside, drop_kept, inner_read, take_kept}

-- the last of these records
last_of : (kept : Kept) (more : List Kept) (before : Mode)
    → option_map_or (λ (k : Kept). k.step.after) (slice_get (kept ∷ more) (length more)) before
    ≡ last_mode kept.step.after more
last_of kept [] before = refl
last_of kept (next ∷ more) before =
    let one : suc (length more) - 1 ≡ length more = omega arith in
    last_of next more before ∙ sym (last_of next more kept.step.after)
    ∙ ap (λ (n : ℕ). option_map_or (λ (k : Kept). k.step.after) (slice_get (next ∷ more) n) kept.step.after)
    (sym one)

-- the mode after records is that after the others, from the first one's on
pub mode_first : (before : Mode) (kept : Kept) (more : List Kept)
    → last_mode before (kept ∷ more) ≡ last_mode kept.step.after more
mode_first before kept more =
    let one : suc (length more) - 1 ≡ length more = omega arith in
    ap (λ (n : ℕ). option_map_or (λ (k : Kept). k.step.after) (slice_get (kept ∷ more) n) before) one
    ∙ last_of kept more before

-- the first p records bound no message
abbrev pub FirstInner : ℕ → List Kept → Type 0
FirstInner p kept = (i : ℕ) (one : Kept) → i < p → slice_get kept i ≡ Some one → bounds_message one.tag ≡ false

module _ (dir : Parts) (context : Context) where
  -- the mode after the records of segments is that after the segments
  pub mode_all : (before : Mode) (segments : List Segment)
      → last_mode before (kept_from dir context before segments) ≡ mode_from dir before segments
  mode_all before [] = refl
  mode_all before (segment ∷ more) =
      let after : Mode = (step_of dir before segment).after in
      mode_first before (kept_of dir context before segment) (kept_from dir context after more)
      ∙ mode_all after more

  -- records that bound no message, placed again, are those of their segments
  pub placed_is : (p : ℕ) (before mode : Mode) (segments : List Segment)
      → FirstInner p (kept_from dir context before segments)
      → placed_from dir mode (take p (kept_from dir context before segments))
      ≡ kept_from dir context mode (take p segments)
  placed_is zero before mode segments inner = refl
  placed_is (suc p) before mode [] inner = refl
  placed_is (suc p) before mode (segment ∷ more) inner =
      let kept : Kept = kept_of dir context before segment in
      let two = bounds_none segment (inner 0 (kept_of dir context before segment) (omega arith) refl) in
      let step : step_of dir mode segment ≡ inner_step dir mode (read_as segment.tag []) =
      step_inside dir mode segment two.0 two.1 ∙ inner_read dir mode segment in
      let after : Mode = (inner_step dir mode (read_as segment.tag [])).after in
      ap (λ (later : List Kept). record kept { step = inner_step dir mode (read_as segment.tag []) } ∷ later)
      (placed_is p (step_of dir before segment).after after more
      (λ i one low at. inner (suc i) one (omega arith) at))
      ∙ ap (λ (s : Step). record kept { step = s } ∷ kept_from dir context s.after (take p more)) (sym step)

  -- records are the same after any mode where the first of them bounds a message
  rest_alike : (one other : Mode) (segments : List Segment)
      → ForSome (slice_get (kept_from dir context one segments) 0) (λ kept. bounds_message kept.tag ≡ true)
      → kept_from dir context one segments ≡ kept_from dir context other segments
  rest_alike one other [] bounds = refl
  rest_alike one other (segment ∷ more) bounds =
      elim (cases_Bool (is_named (codes "UNH") segment)) [
        | inl opens ↦ alike_at_unh dir context one other segment opens more
        | inr inside ↦ elim
            (or_cases (is_named (codes "UNH") segment) (is_no_part segment)
            (bounds (kept_of dir context one segment) refl)) [
              | inl opens ↦ alike_at_unh dir context one other segment opens more
              | inr out ↦ alike_outside dir context one other segment inside out more
            ]
      ]

  -- the first p records placed again after another mode, and the others as they are, where the mode before these is what it
  -- was, or the first of them bounds a message: they are the records of all segments after that mode
  pub onward : (p : ℕ) (before last : Mode) (segments : List Segment)
      → FirstInner p (kept_from dir context before segments)
      → (mode_from dir last (take p segments) ≡ mode_from dir before (take p segments))
      ⊎ ForSome (slice_get (drop p (kept_from dir context before segments)) 0)
      (λ kept. bounds_message kept.tag ≡ true)
      → placed_from dir last (take p (kept_from dir context before segments)) ++ drop p
      (kept_from dir context before segments)
      ≡ kept_from dir context last segments
  onward p before last segments inner stays =
      let front : placed_from dir last (take p (kept_from dir context before segments))
      ≡ take p (kept_from dir context last segments) =
      placed_is p before last segments inner ∙ sym (take_kept dir context last segments p) in
      let old : Mode = mode_from dir before (take p segments) in
      let new : Mode = mode_from dir last (take p segments) in
      let parts : drop p (kept_from dir context before segments) ≡ kept_from dir context old (drop p segments) =
      drop_kept dir context before segments p in
      let same : kept_from dir context old (drop p segments) ≡ kept_from dir context new (drop p segments) =
      elim stays [
        | inl meets ↦ ap (λ (mode : Mode). kept_from dir context mode (drop p segments)) (sym meets)
        | inr bounds ↦ rest_alike old new (drop p segments)
            (λ kept at. bounds kept (ap (λ (records : List Kept). slice_get records 0) parts ∙ at))
      ] in
      ap (λ (records : List Kept). records ++ drop p (kept_from dir context before segments)) front
      ∙ ap (λ (records : List Kept). take p (kept_from dir context last segments) ++ records)
      (parts ∙ same ∙ sym (drop_kept dir context last segments p))
      ∙ take-append-drop p (kept_from dir context last segments)
