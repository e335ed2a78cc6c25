-- One segment after another: where a segment is by the mode before it, and the mode after it. It is what bodies do;
-- the laws say that it comes to the positions of messages.
use Rattle.std.specs.Prelude.{ℕ, Bool, false, List, [], ◌∷◌, Option, Some, None, codes, if◌then◌else◌}
use Rattle.std.specs.List.{list_any}
use Rattle.dir_compile.specs.Directory.{Directory}
use Rattle.edi_tables.specs.Octets.{Octets}
use Rattle.edi_tables.specs.declared.table.Node.{Node}
use Rattle.edi_tables.specs.Rows.{has_name}
use Rattle.edi_tables.specs.Pairs.{pairs_of}
use Rattle.table_walk.specs.Steps.{member_in, missing_in, is_over_in, pairs_after}
use Rattle.segment_records.specs.Segments.{Segment}
use Rattle.segment_records.specs.Messages.{table_for, nodes_at}
use Rattle.segment_records.specs.declared.mode.Mode.{Mode}
use Rattle.segment_records.specs.declared.mode.Mode.TheVariants.{Outside, Untabled, Within}

-- where a segment is: at an entry or at none, what is missing before it, whether it is one too many, and the mode
-- after it
pub record Step : Type 0 where
  pub entry : Option ℕ
  pub missing : List ℕ
  pub over : Bool
  pub after : Mode

-- a step that nothing is said of but the mode after it
abbrev pub plain_step : Mode → Step
plain_step after = record { entry = None; missing = []; over = false; after = after }

-- a segment is named so
abbrev pub is_named : Octets → Segment → Bool
is_named name segment = has_name name segment.tag

-- UNB, UNG, UNE and UNZ are in no message
abbrev pub is_no_part : Segment → Bool
is_no_part segment =
    list_any (λ name. is_named name segment) (codes "UNB" ∷ codes "UNG" ∷ codes "UNE" ∷ codes "UNZ" ∷ [])

-- the mode after a segment of a message: UNT closes it
abbrev pub unless_closed : Segment → Mode → Mode
unless_closed segment after = if is_named (codes "UNT") segment then Outside else after

-- UNH, which is at entry 0 of the table that it names
abbrev pub opening_step : Directory → Option ℕ → Step
opening_step dir None = plain_step Untabled
opening_step dir (Some table) =
    let pairs = pairs_of (nodes_at dir table) (Some 0 ∷ []) in
    record { entry = Some 0; missing = []; over = false; after = Within table pairs }

-- a segment after these pairs
abbrev pub placed_step : ℕ → List Node → List (ℕ × ℕ) → Segment → Step
placed_step table nodes pairs segment =
    let member = member_in nodes pairs segment.tag in
    record {
      entry = member;
      missing = missing_in nodes pairs member;
      over = is_over_in nodes pairs member;
      after = unless_closed segment (Within table (pairs_after nodes pairs member));
    }

-- a segment that neither opens nor leaves a message
abbrev pub inner_step : Directory → Mode → Segment → Step
inner_step dir Outside segment = plain_step Outside
inner_step dir Untabled segment = plain_step (unless_closed segment Untabled)
inner_step dir (Within table pairs) segment = placed_step table (nodes_at dir table) pairs segment

-- a segment after this mode
unfoldable pub step_of : Directory → Mode → Segment → Step
step_of dir before segment =
    if is_named (codes "UNH") segment then opening_step dir (table_for dir segment.components)
    else if is_no_part segment then plain_step Outside
    else inner_step dir before segment

-- the steps of segments, one after the other, from this mode on
abbrev pub steps_from : Directory → Mode → List Segment → List Step
steps_from dir before [] = []
steps_from dir before (segment ∷ more) =
    step_of dir before segment ∷ steps_from dir (step_of dir before segment).after more

-- the mode after segments
abbrev pub mode_from : Directory → Mode → List Segment → Mode
mode_from dir before [] = before
mode_from dir before (segment ∷ more) = mode_from dir (step_of dir before segment).after more
