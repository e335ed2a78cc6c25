-- For bodies: what is seen of a step, and the segment that a step is taken with.
use Rattle.std.specs.Prelude.{List, Option}
use Rattle.edi_tables.specs.declared.tag.Tag.{Tag}
use Rattle.seg_lexer.specs.Fields.{Component}
use Rattle.segment_records.specs.declared.step.Step.{Step as TakenStep}
use Rattle.segment_records.specs.Segments.{Segment}
use Rattle.segment_records.specs.Standings.{entry_at, is_over_at}
use Rattle.segment_records.specs.Steps.{Step}

-- a step as it was taken: the entry, what is missing, whether it is one too many, and the mode after it
abbrev pub taken : TakenStep → Step
taken step =
    record {
      entry = entry_at step.standing;
      missing = step.missing.items;
      over = is_over_at step.standing;
      after = step.after;
    }

-- a segment with this tag and these components: a step doesn't look at its places
abbrev pub read_as : Option Tag → List Component → Segment
read_as tag components = record { from = 0; start = 0; end = 0; components = components; tag = tag }
