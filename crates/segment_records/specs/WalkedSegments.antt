-- The segments of a text with what is worked out of their records, one after the other.
use Rattle.std.specs.Prelude.{◌≡◌, ◌<◌, ◌≤◌, ◌+◌, ◌-◌, ℕ, false, List, [], ◌∷◌, length, slice_get, sum_by, All, Option, Some, None}
use Rattle.std.specs.Option.{option_map}
use Rattle.dir_compile.specs.Directory.{Directory}
use Rattle.edi_tables.specs.Octets.{Octets}
use Rattle.seg_lexer.specs.Context.{context_of}
use Rattle.seg_lexer.specs.Service.{service_of}
use Rattle.seg_lexer.specs.declared.context.Context.{Context}
use Rattle.segment_records.specs.Bounds.{bounds_message}
use Rattle.segment_records.specs.Messages.{mode_after}
use Rattle.segment_records.specs.Records.{Kept, IsModeOf, kept_from, kept_of}
use Rattle.segment_records.specs.Segments.{Segment, segments_of_text}
use Rattle.segment_records.specs.Steps.{inner_step}
use Rattle.segment_records.specs.Taken.{read_as}
use Rattle.segment_records.specs.declared.mode.Mode.{Mode}
use Rattle.segment_records.specs.declared.mode.Mode.TheVariants.{Outside}
use Rattle.edi_octets.specs.declared.octets.TheConstants.{LONGEST_TEXT}

-- a segment: its number, the boundary before it, the mode before it, what is kept of it, and of the one after it
pub record SeenSegment : Type 0 where
  pub number : ℕ
  pub from : ℕ
  pub before : Mode
  pub kept : Kept
  pub next : Option Kept

-- the segments of which these are kept, from this number, boundary and mode on
abbrev pub seen_from : ℕ → ℕ → Mode → List Kept → List SeenSegment
seen_from number from before [] = []
seen_from number from before (kept ∷ more) =
    record { number = number; from = from; before = before; kept = kept; next = slice_get more 0 }
    ∷ seen_from (number + 1) (from + kept.octets) kept.step.after more

-- all records of a text
unfoldable pub kept_in : Directory → Octets → List Kept
kept_in dir text = kept_from dir (context_of text) Outside (segments_of_text text)

-- all segments of a text, by their records
unfoldable pub seen_in : Directory → Octets → List SeenSegment
seen_in dir text = seen_from 1 (service_of text).body Outside (kept_in dir text)

-- the same by the segments themselves: that of segment p.1 at place p.0
abbrev pub seen_at : Directory → Context → List Segment → ℕ × Segment → SeenSegment
seen_at dir context segments p = record {
  number = p.0 + 1;
  from = p.1.from;
  before = mode_after dir segments p.0;
  kept = kept_of dir context (mode_after dir segments p.0) p.1;
  next = option_map (kept_of dir context (mode_after dir segments (p.0 + 1))) (slice_get segments (p.0 + 1));
}

-- a segment as its message sees it: by its places and its tag
abbrev pub as_segment : SeenSegment → Segment
as_segment seen = record {
  from = seen.from;
  start = seen.from + seen.kept.breaks;
  end = seen.from + (seen.kept.octets - 1);
  components = [];
  tag = seen.kept.tag;
}

-- the mode after segments of which these are kept, from this mode on
abbrev pub mode_left : Mode → List Kept → Mode
mode_left before [] = before
mode_left before (kept ∷ more) = mode_left kept.step.after more

-- how many octets these are of
abbrev pub octets_in : List Kept → ℕ
octets_in kept = sum_by (λ k. k.octets) kept

-- what is kept of a segment is of a stretch: it has its terminator after the line ends in front
abbrev pub IsFilled : Kept → Type 0
IsFilled kept = kept.breaks < kept.octets

-- these stretches come one after the other from a boundary on, in a text that isn't too long
pub record AreStretches (number from : ℕ) (kept : List Kept) : Type 0 where
  pub filled : All IsFilled kept
  pub within : from + octets_in kept ≤ LONGEST_TEXT
  pub numbered : number ≤ from + 1

-- what is left to come: the record at hand, and those after it
abbrev pub left_of : Option Kept → List Kept → List Kept
left_of None rest = rest
left_of (Some kept) rest = kept ∷ rest

-- a segment follows its mode: both are of the directory, and a segment that bounds no message takes the step in it
pub record Follows (dir : Directory) (seen : SeenSegment) : Type 0 where
  pub before : IsModeOf dir 4194303 seen.before
  pub after : IsModeOf dir LONGEST_TEXT seen.kept.step.after
  pub inner : bounds_message seen.kept.tag ≡ false
      → seen.kept.step ≡ inner_step dir seen.before (read_as seen.kept.tag [])

-- a segment lies in a text
abbrev pub LiesIn : Octets → SeenSegment → Type 0
LiesIn text seen = seen.from + seen.kept.octets ≤ length text
