-- Which segments of a text have to be looked at when it is asked for its errors, functional groups and messages.
use Rattle.std.specs.Prelude.{ℕ, Bool, true, false, not, ◌&&◌, ◌||◌, List, [], ◌∷◌, filter, is_some, if◌then◌else◌}
use Rattle.dir_compile.specs.Directory.{Directory}
use Rattle.edi_tables.specs.Octets.{Octets}
use Rattle.segment_records.specs.Bounds.{stops_message}
use Rattle.segment_records.specs.Line.{ends_before}
use Rattle.segment_records.specs.Records.{Kept}
use Rattle.segment_records.specs.Steps.{Step}
use Rattle.segment_records.specs.WalkedSegments.{SeenSegment, seen_in}
use Rattle.segment_records.specs.declared.mode.Mode.{Mode}
use Rattle.segment_records.specs.declared.mode.Mode.TheVariants.{Outside, Untabled, Within}

-- a list has no member
abbrev pub is_none_of : {X : Type 0} → List X → Bool
is_none_of [] = true
is_none_of (x ∷ xs) = false

-- a segment is at an entry, nothing is missing before it, and it isn't one too many there
abbrev pub is_well_placed : Step → Bool
is_well_placed step = is_some step.entry && is_none_of step.missing && not step.over

-- after a segment, a message with a table is open
abbrev pub is_within : Mode → Bool
is_within Outside = false
is_within Untabled = false
is_within (Within table pairs) = true

-- something is to be said of a segment by what is kept of it alone: it opens, closes or stops a message, it has a local
-- error, or it is in a message with a table and not well placed there
abbrev pub is_marked : Kept → Bool
is_marked kept =
    stops_message kept.tag || not (is_none_of kept.local)
    || (is_within kept.step.after && not (is_well_placed kept.step))

-- a segment is marked once, or not at all
abbrev pub marks_of : Kept → ℕ
marks_of kept = if is_marked kept then 1 else 0

-- a segment is notable: it is marked, or its message ends with it
abbrev pub is_notable : SeenSegment → Bool
is_notable seen = is_marked seen.kept || ends_before seen.next

-- the notable segments of a text, in order
unfoldable pub notable_in : Directory → Octets → List SeenSegment
notable_in dir text = filter is_notable (seen_in dir text)
