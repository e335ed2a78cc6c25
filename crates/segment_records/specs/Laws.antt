-- The laws of steps: taken one after the other they come to the positions of messages, and octets that follow a
-- boundary are read by themselves.
use Rattle.std.specs.Prelude.{ℕ, ◌+◌, ◌≡◌, ◌&&◌, ◌||◌, nat_lt, Bool, true, false, not, List, [], ◌∷◌, ◌++◌, length, map, drop, slice_get, Option, Some, None, codes, if◌then◌else◌}
use Rattle.std.specs.List.{list_any}
use Rattle.dir_compile.specs.Directory.{Directory}
use Rattle.edi_tables.specs.Octets.{Octets}
use Rattle.edi_tables.specs.declared.tag.Tag.{Tag}
use Rattle.edi_tables.specs.Extents.{tag_in}
use Rattle.edi_tables.specs.Pairs.{entry_in}
use Rattle.edi_tables.specs.Walk.{missing_past}
use Rattle.seg_lexer.specs.Whole.{IsWhole, at_start}
use Rattle.seg_lexer.specs.declared.context.Context.{Context}
use Rattle.table_walk.specs.Errors.{Fault}
use Rattle.table_walk.specs.Errors.Fault.{Missing, Over, Unplaced}
use Rattle.segment_records.specs.Bounds.{bounds_message}
use Rattle.segment_records.specs.Segments.{Segment, segments_by, tags_in}
use Rattle.segment_records.specs.Messages.{structure_errors_at, mode_after, nodes_at}
use Rattle.segment_records.specs.Steps.{Step, step_of, mode_from, is_named, is_no_part}
use Rattle.segment_records.specs.Places.{place_at, place_by}
use Rattle.segment_records.specs.Records.{kept_from, records_from}
use Rattle.segment_records.specs.declared.mode.Mode.{Mode}
use Rattle.segment_records.specs.declared.mode.Mode.TheVariants.{Outside, Within}

-- the mode after each segment is that of its step
abbrev pub StepsAreModes : Directory → List Segment → Type 0
StepsAreModes dir segments =
    (i : ℕ) (segment : Segment) → slice_get segments i ≡ Some segment
    → mode_after dir segments (i + 1) ≡ (step_of dir (mode_after dir segments i) segment).after

-- what is wrong with a segment that is after pairs: what is missing, one too many, or no entry at all
abbrev pub faults_of_member : Option ℕ → List ℕ → Bool → List Fault
faults_of_member None missing over = Unplaced ∷ []
faults_of_member (Some entry) missing over = map Missing missing ++ (if over then Over entry ∷ [] else [])

-- a segment after this mode is part of an open message with a table
abbrev pub is_walked : Mode → Segment → Bool
is_walked (Within table pairs) segment = not (is_named (codes "UNH") segment) && not (is_no_part segment)
is_walked mode segment = false

-- what is wrong by a step
abbrev pub step_faults : Mode → Segment → Step → List Fault
step_faults before segment step =
    if is_walked before segment then faults_of_member step.entry step.missing step.over else []

-- after place i a message ends, as far as one is open there: no segment follows, or one that is not of it
abbrev pub ends_after : List (Option Tag) → ℕ → Bool
ends_after tags i =
    not (nat_lt (i + 1) (length tags)) || bounds_message (tag_in tags (i + 1))

-- the nodes that are missing where a message with this mode ends without UNT
abbrev pub missing_at_end : Directory → Mode → List ℕ
missing_at_end dir (Within table pairs) = missing_past (nodes_at dir table) (entry_in pairs)
missing_at_end dir mode = []

-- what is wrong at place i where a message ends after it: each node that is missing then
abbrev pub end_faults : Directory → List (Option Tag) → ℕ → Mode → List Fault
end_faults dir tags i after = if ends_after tags i then map Missing (missing_at_end dir after) else []

-- what is wrong in the structure of messages at each segment is what its step tells, and what is missing where its
-- message ends
abbrev pub StepsTellFaults : Directory → List Segment → Type 0
StepsTellFaults dir segments =
    (i : ℕ) (segment : Segment) → slice_get segments i ≡ Some segment
    → map (λ error. error.fault) (structure_errors_at dir segments i)
    ≡ step_faults (mode_after dir segments i) segment (step_of dir (mode_after dir segments i) segment)
    ++ end_faults dir (tags_in segments) i (mode_after dir segments (i + 1))

-- where each segment is in the tree is what its step tells
abbrev pub StepsTellPlaces : Directory → List Segment → Type 0
StepsTellPlaces dir segments =
    (i : ℕ) (segment : Segment) → slice_get segments i ≡ Some segment
    → place_at dir segments i
    ≡ place_by dir (mode_after dir segments i) segment (step_of dir (mode_after dir segments i) segment)

-- what is kept of a text is what is kept of its body, from outside of messages on
abbrev pub WholeIsBody : Directory → Context → Octets → Type 0
WholeIsBody dir context text =
    kept_from dir context Outside (segments_by context.service text)
    ≡ records_from dir context Outside (drop context.service.body text)

-- octets after whole segments are read by themselves, from the mode that these leave
abbrev pub WholeThenMore : Directory → Context → Mode → Octets → Octets → Type 0
WholeThenMore dir context before front back =
    IsWhole (at_start context.service) front
    → records_from dir context before (front ++ back)
    ≡ records_from dir context before front
    ++ records_from dir context (mode_from dir before (segments_by (at_start context.service) front)) back

-- after a segment that opens or closes an extent the mode is the same, whatever it was before
abbrev pub ForgetsBefore : Directory → Segment → Type 0
ForgetsBefore dir segment =
    list_any (λ name. is_named name segment)
    (codes "UNH" ∷ codes "UNT" ∷ codes "UNB" ∷ codes "UNG" ∷ codes "UNE" ∷ codes "UNZ" ∷ []) ≡ true
    → (one other : Mode) → (step_of dir one segment).after ≡ (step_of dir other segment).after
