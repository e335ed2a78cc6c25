-- The cases of a step, as its code tells them apart, and the mode after a segment of a message.
use Rattle.std.proofs.Common.{◌≡◌, ℕ, ◌<◌, Bool, true, false, List, [], Option, length, refl, sym, subst, ap, ◌∙◌}
use Rattle.std.specs.Prelude.{codes, if◌then◌else◌}
use Rattle.edi_tables.specs.declared.table.Node.{Node}
use Rattle.edi_tables.specs.declared.tag.Tag.{Tag}
use Rattle.dir_compile.specs.declared.parts.Parts.{Parts}
use Rattle.dir_compile.specs.Directory.{tables_of}
use Rattle.seg_lexer.specs.Fields.{Component}
use Rattle.table_walk.specs.Steps.{AreCountsUpTo, IsShaped, is_over_in, member_in, missing_in, pairs_after}
use Rattle.segment_records.specs.Messages.{nodes_at, table_for}
use Rattle.segment_records.specs.Records.{IsModeOf}
use Rattle.segment_records.specs.Segments.{Segment}
use Rattle.segment_records.specs.Steps.{inner_step, is_named, is_no_part, opening_step, placed_step, plain_step, step_of, unless_closed}
use Rattle.segment_records.specs.Taken.{read_as}
use Rattle.segment_records.specs.declared.mode.Mode.{Mode}
use Rattle.segment_records.specs.declared.mode.Mode.TheVariants.{Outside, Untabled, Within}

module _ (dir : Parts) (before : Mode) (segment : Segment) where
  pub step_at_unh : is_named (codes "UNH") segment ≡ true → step_of dir before segment ≡ opening_step dir (table_for dir segment.components)
  unfolding step_of
  step_at_unh is =
      ap (λ (b : Bool). if b then opening_step dir (table_for dir segment.components) else (if is_no_part segment then plain_step Outside else inner_step dir before segment)) is

  step_after_unh : is_named (codes "UNH") segment ≡ false → step_of dir before segment ≡ (if is_no_part segment then plain_step Outside else inner_step dir before segment)
  unfolding step_of
  step_after_unh is =
      ap (λ (b : Bool). if b then opening_step dir (table_for dir segment.components) else (if is_no_part segment then plain_step Outside else inner_step dir before segment)) is

  pub step_outside : is_named (codes "UNH") segment ≡ false → is_no_part segment ≡ true → step_of dir before segment ≡ plain_step Outside
  step_outside is out = step_after_unh is ∙ ap (λ (b : Bool). if b then plain_step Outside else inner_step dir before segment) out

  pub step_inside : is_named (codes "UNH") segment ≡ false → is_no_part segment ≡ false → step_of dir before segment ≡ inner_step dir before segment
  step_inside is out = step_after_unh is ∙ ap (λ (b : Bool). if b then plain_step Outside else inner_step dir before segment) out

-- a segment that neither opens nor leaves a message is placed by its tag alone
pub inner_read : (dir : Parts) (before : Mode) (tag : Option Tag) (components : List Component)
    → inner_step dir before (read_as tag []) ≡ inner_step dir before (read_as tag components)
inner_read dir Outside tag components = refl
inner_read dir Untabled tag components = refl
inner_read dir (Within table pairs) tag components = refl

-- the mode of a message with a table, unless a segment closes it
pub mode_unless : (dir : Parts) (most table : ℕ) (pairs : List (ℕ × ℕ)) (closes : Bool) (after : Mode) → after ≡ (if closes then Outside else Within table pairs)
    → table < length (tables_of dir) → IsShaped (nodes_at dir table) pairs → AreCountsUpTo most pairs → IsModeOf dir most after
mode_unless dir most table pairs true after is within shaped counts = subst (IsModeOf dir most) (sym is) tt
mode_unless dir most table pairs false after is within shaped counts = subst (IsModeOf dir most) (sym is) (within, shaped, counts)

-- the step of a segment that is placed so after these pairs of a table
pub step_placed : (table : ℕ) (nodes : List Node) (pairs : List (ℕ × ℕ)) (tag : Option Tag) (entry : Option ℕ) (missing : List ℕ) (over : Bool) (after : Mode)
    → entry ≡ member_in nodes pairs tag → missing ≡ missing_in nodes pairs entry → over ≡ is_over_in nodes pairs entry
    → after ≡ unless_closed (read_as tag []) (Within table (pairs_after nodes pairs entry))
    → record { entry = entry; missing = missing; over = over; after = after } ≡ placed_step table nodes pairs (read_as tag [])
step_placed table nodes pairs tag entry missing over after is_entry is_missing is_over is_after = rw (is_after, is_over, is_missing, is_entry) refl
