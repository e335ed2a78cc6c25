-- Records after a mode: a front of them and a rest, and what another mode before them leaves as it is.
use Rattle.std.proofs.Common.{◌≡◌, ℕ, zero, suc, true, false, List, [], ◌∷◌, take, drop, refl, sym, ap, ◌∙◌}
use Rattle.std.specs.Prelude.{codes}
use Rattle.dir_compile.specs.declared.parts.Parts.{Parts}
use Rattle.seg_lexer.specs.declared.context.Context.{Context}
use Rattle.segment_records.specs.Records.{Kept, kept_from, kept_of}
use Rattle.segment_records.specs.Segments.{Segment}
use Rattle.segment_records.specs.Steps.{Step, inner_step, is_named, is_no_part, mode_from, step_of}
use Rattle.segment_records.specs.Taken.{read_as}
use Rattle.segment_records.specs.declared.mode.Mode.{Mode}
use Rattle.segment_records.specs.declared.mode.Mode.TheVariants.{Outside, Untabled, Within}
use Rattle.segment_records.proofs.Taking.{step_at_unh, step_inside, step_outside}

-- a step in a message looks at the tag alone
pub inner_read : (dir : Parts) (before : Mode) (segment : Segment)
    → inner_step dir before segment ≡ inner_step dir before (read_as segment.tag [])
inner_read dir Outside segment = refl
inner_read dir Untabled segment = refl
inner_read dir (Within table pairs) segment = refl

module _ (dir : Parts) (context : Context) where
  -- the records of the first segments are the first records
  pub take_kept : (before : Mode) (segments : List Segment) (k : ℕ)
      → take k (kept_from dir context before segments) ≡ kept_from dir context before (take k segments)
  take_kept before segments zero = refl
  take_kept before [] (suc k) = refl
  take_kept before (segment ∷ more) (suc k) =
      ap (λ (kept : List Kept). kept_of dir context before segment ∷ kept)
      (take_kept (step_of dir before segment).after more k)

  -- and the records after them are those of the segments after them, from the mode that these leave
  pub drop_kept : (before : Mode) (segments : List Segment) (k : ℕ)
      → drop k (kept_from dir context before segments)
      ≡ kept_from dir context (mode_from dir before (take k segments)) (drop k segments)
  drop_kept before segments zero = refl
  drop_kept before [] (suc k) = refl
  drop_kept before (segment ∷ more) (suc k) = drop_kept (step_of dir before segment).after more k

  module _ (one other : Mode) (segment : Segment) where
    -- a segment inside of messages is kept after another mode with the step that its tag takes there
    pub kept_again : is_named (codes "UNH") segment ≡ false → is_no_part segment ≡ false
        → kept_of dir context other segment
        ≡ record (kept_of dir context one segment) { step = inner_step dir other (read_as segment.tag []) }
    kept_again opens leaves =
        ap (λ (step : Step). record (kept_of dir context one segment) { step = step })
        (step_inside dir other segment opens leaves ∙ inner_read dir other segment)

    -- records are the same where the first step is
    alike_by : step_of dir one segment ≡ step_of dir other segment → (more : List Segment)
        → kept_from dir context one (segment ∷ more) ≡ kept_from dir context other (segment ∷ more)
    alike_by same more =
        ap (λ (step : Step). record
        (kept_of dir context one segment) { step = step } ∷ kept_from dir context step.after more) same

    -- the step of UNH doesn't look at the mode before it, and so neither do the records from there on
    pub alike_at_unh : is_named (codes "UNH") segment ≡ true → (more : List Segment)
        → kept_from dir context one (segment ∷ more) ≡ kept_from dir context other (segment ∷ more)
    alike_at_unh opens = alike_by (step_at_unh dir one segment opens ∙ sym (step_at_unh dir other segment opens))

    -- nor does that of a segment that is in no message
    pub alike_outside : is_named (codes "UNH") segment ≡ false → is_no_part segment ≡ true
        → (more : List Segment)
        → kept_from dir context one (segment ∷ more) ≡ kept_from dir context other (segment ∷ more)
    alike_outside opens leaves =
        alike_by (step_outside dir one segment opens leaves ∙ sym (step_outside dir other segment opens leaves))
