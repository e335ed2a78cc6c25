-- The step of a segment, by its tag.
use Rattle.std.proofs.Common.{◌≡◌, ℕ, Bool, true, false, List, refl, ap, ◌∙◌}
use Rattle.std.specs.Prelude.{codes, if◌then◌else◌}
use Rattle.dir_compile.specs.declared.parts.Parts.{Parts}
use Rattle.table_walk.specs.Steps.{member_in, pairs_after}
use Rattle.segment_records.specs.Segments.{Segment}
use Rattle.segment_records.specs.Messages.{table_for, nodes_at}
use Rattle.segment_records.specs.Steps.{plain_step, opening_step, inner_step, step_of, unless_closed, is_named, is_no_part}
use Rattle.segment_records.specs.declared.mode.Mode.{Mode}
use Rattle.segment_records.specs.declared.mode.Mode.TheVariants.{Outside, Untabled, Within}
use Rattle.segment_records.proofs.Turns.{Tests}

module _ (dir : Parts) (before : Mode) (segment : Segment) where
  step_by : (opens leaves : Bool) → is_named (codes "UNH") segment ≡ opens → is_no_part segment ≡ leaves
      → step_of dir before segment
      ≡ (if opens then opening_step dir (table_for dir segment.components) else
      (if leaves then plain_step Outside else inner_step dir before segment))
  unfolding step_of
  step_by opens leaves is_opening is_leaving =
      ap (λ (b : Bool). if b then opening_step dir (table_for dir segment.components) else
      (if is_no_part segment then plain_step Outside else inner_step dir before segment)) is_opening
      ∙ ap (λ (b : Bool). if opens then opening_step dir (table_for dir segment.components) else
      (if b then plain_step Outside else inner_step dir before segment)) is_leaving

  pub step_opening : Tests segment.tag true false false true
      → step_of dir before segment ≡ opening_step dir (table_for dir segment.components)
  step_opening tests = step_by true false tests.unh tests.out

  pub step_leaving : Tests segment.tag false false true true → step_of dir before segment ≡ plain_step Outside
  step_leaving tests = step_by false true tests.unh tests.out

  pub step_inner : (closes stops : Bool) → Tests segment.tag false closes false stops
      → step_of dir before segment ≡ inner_step dir before segment
  step_inner closes stops tests = step_by false false tests.unh tests.out

-- a UNT leaves its message, another segment doesn't
pub unless_is : (segment : Segment) (closes : Bool) (after : Mode) → is_named (codes "UNT") segment ≡ closes
    → unless_closed segment after ≡ (if closes then Outside else after)
unless_is segment closes after is = ap (λ (b : Bool). if b then Outside else after) is

pub after_closing : (dir : Parts) (before : Mode) (segment : Segment) → Tests segment.tag false true false true
    → (inner_step dir before segment).after ≡ Outside
after_closing dir Outside segment tests = refl
after_closing dir Untabled segment tests = unless_is segment true Untabled tests.unt
after_closing dir (Within table pairs) segment tests =
    unless_is segment true
    (Within table (pairs_after (nodes_at dir table) pairs (member_in (nodes_at dir table) pairs segment.tag))) tests.unt

pub after_inner : (dir : Parts) (table : ℕ) (pairs : List (ℕ × ℕ)) (segment : Segment)
    → Tests segment.tag false false false false
    → (inner_step dir (Within table pairs) segment).after
    ≡ Within table (pairs_after (nodes_at dir table) pairs (member_in (nodes_at dir table) pairs segment.tag))
after_inner dir table pairs segment tests =
    unless_is segment false
    (Within table (pairs_after (nodes_at dir table) pairs (member_in (nodes_at dir table) pairs segment.tag))) tests.unt
