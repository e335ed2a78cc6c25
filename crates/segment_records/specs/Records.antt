-- What is kept of the segments of a text. Nothing of it changes by an edit outside of a segment's stretch, except by
-- the mode before the segment.
use Rattle.std.specs.Prelude.{ℕ, ◌+◌, ◌-◌, ◌<◌, ⊤, List, [], ◌∷◌, length, Option}
use Rattle.edi_tables.specs.Octets.{Octets}
use Rattle.edi_tables.specs.declared.tag.Tag.{Tag}
use Rattle.dir_compile.specs.Directory.{Directory, tables_of}
use Rattle.seg_lexer.specs.Whole.{at_start}
use Rattle.seg_lexer.specs.declared.context.Context.{Context}
use Rattle.element_check.specs.declared.error.LocalError.{LocalError}
use Rattle.element_check.specs.Local.{local_errors_of}
use Rattle.envelope_check.specs.declared.head.HeadValues.{HeadValues}
use Rattle.table_walk.specs.Steps.{IsShaped, AreCountsUpTo}
use Rattle.segment_records.specs.Heads.{given_by}
use Rattle.segment_records.specs.Segments.{Segment, segments_by}
use Rattle.segment_records.specs.Messages.{nodes_at}
use Rattle.segment_records.specs.Steps.{Step, step_of}
use Rattle.segment_records.specs.declared.mode.Mode.{Mode}
use Rattle.segment_records.specs.declared.mode.Mode.TheVariants.{Outside, Untabled, Within}

-- how many octets a segment's stretch has, line ends in front and terminator included, how many of them are line
-- ends in front, the tag, the local errors, the values that it gives as a head, and the step
pub record Kept : Type 0 where
  pub octets : ℕ
  pub breaks : ℕ
  pub tag : Option Tag
  pub local : List LocalError
  pub given : Option HeadValues
  pub step : Step

-- what is kept of a segment after this mode
abbrev pub kept_of : Directory → Context → Mode → Segment → Kept
kept_of dir context before segment = record {
  octets = segment.end + 1 - segment.from;
  breaks = segment.start - segment.from;
  tag = segment.tag;
  local = local_errors_of dir context segment.components;
  given = given_by segment.tag segment.components;
  step = step_of dir before segment;
}

-- what is kept of segments, one after the other, from this mode on
abbrev pub kept_from : Directory → Context → Mode → List Segment → List Kept
kept_from dir context before [] = []
kept_from dir context before (segment ∷ more) =
    kept_of dir context before segment ∷ kept_from dir context (step_of dir before segment).after more

-- what is kept of the segments of the octets after a boundary, from this mode on
unfoldable pub records_from : Directory → Context → Mode → Octets → List Kept
records_from dir context before octets = kept_from dir context before (segments_by (at_start context.service) octets)

-- a mode belongs to a directory, and no count of it is greater: its table is one of the directory's, and its pairs
-- belong to the table
abbrev pub IsModeOf : Directory → ℕ → Mode → Type 0
IsModeOf dir most Outside = ⊤
IsModeOf dir most Untabled = ⊤
IsModeOf dir most (Within table pairs) =
    (table < length (tables_of dir)) × IsShaped (nodes_at dir table) pairs × AreCountsUpTo most pairs
