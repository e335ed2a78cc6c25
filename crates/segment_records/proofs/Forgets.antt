-- After a segment that opens or closes an extent the mode is the same, whatever it was before.
use Rattle.std.proofs.Common.{◌≡◌, Bool, true, false, [], ◌∷◌, Option, sym, ap, ◌∙◌}
use Rattle.std.specs.Prelude.{codes, ◌||◌}
use Rattle.std.specs.List.{list_any}
use Rattle.std.proofs.lemmas.Bool.{false≢true}
use Rattle.edi_tables.specs.declared.tag.Tag.{Tag}
use Rattle.edi_tables.specs.Rows.{has_name}
use Rattle.dir_compile.specs.declared.parts.Parts.{Parts}
use Rattle.segment_records.specs.Laws.{ForgetsBefore}
use Rattle.segment_records.specs.Segments.{Segment}
use Rattle.segment_records.specs.Steps.{Step, step_of}
use Rattle.segment_records.specs.declared.mode.Mode.{Mode}
use Rattle.segment_records.proofs.Stepping.{after_closing, step_inner, step_leaving, step_opening}
use Rattle.segment_records.proofs.Turns.{Turn, Tests, opening, closing, leaving, inner, turn_of}

-- a tag of one of the six names
abbrev is_head : Option Tag → Bool
is_head tag =
    list_any (λ name. has_name name tag)
    (codes "UNH" ∷ codes "UNT" ∷ codes "UNB" ∷ codes "UNG" ∷ codes "UNE" ∷ codes "UNZ" ∷ [])

no_head : (tag : Option Tag) → Tests tag false false false false → is_head tag ≡ false
no_head tag tests =
    ap (λ (b : Bool). b ||
    (has_name (codes "UNT") tag || list_any (λ name. has_name name tag)
    (codes "UNB" ∷ codes "UNG" ∷ codes "UNE" ∷ codes "UNZ" ∷ []))) tests.unh
    ∙ ap (λ (b : Bool). b || list_any (λ name. has_name name tag)
    (codes "UNB" ∷ codes "UNG" ∷ codes "UNE" ∷ codes "UNZ" ∷ [])) tests.unt ∙ tests.out

module _ (dir : Parts) (segment : Segment) where
  same_by : Turn segment.tag → is_head segment.tag ≡ true → (one other : Mode)
      → (step_of dir one segment).after ≡ (step_of dir other segment).after
  same_by (opening tests) head one other =
      ap (λ (step : Step). step.after) (step_opening dir one segment tests ∙ sym (step_opening dir other segment tests))
  same_by (closing tests) head one other =
      ap (λ (step : Step). step.after) (step_inner dir one segment true true tests)
      ∙ after_closing dir one segment tests
      ∙ sym (ap (λ (step : Step). step.after) (step_inner dir other segment true true tests)
      ∙ after_closing dir other segment tests)
  same_by (leaving tests) head one other =
      ap (λ (step : Step). step.after) (step_leaving dir one segment tests ∙ sym (step_leaving dir other segment tests))
  same_by (inner tests) head one other = absurd (false≢true (sym (no_head segment.tag tests) ∙ head))

pub forgets_before : (dir : Parts) (segment : Segment) → ForgetsBefore dir segment
forgets_before dir segment head one other = same_by dir segment (turn_of segment.tag) head one other
