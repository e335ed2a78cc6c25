-- The errors of a segment, by what is seen of it.
use Rattle.std.specs.Prelude.{ℕ, Bool, true, List, [], ◌++◌, map, Option, Some, None, if◌then◌else◌}
use Rattle.dir_compile.specs.Directory.{Directory}
use Rattle.edi_tables.specs.Octets.{Octets}
use Rattle.edi_tables.specs.declared.table.Node.{Node}
use Rattle.edi_tables.specs.Rows.{when}
use Rattle.error_ledger.specs.declared.error.ErrorLine.{ErrorLine}
use Rattle.error_ledger.specs.declared.kind.Kind.{Kind}
use Rattle.error_ledger.specs.declared.kind.Kind.TheVariants as kind
use Rattle.table_walk.specs.Errors.{Fault}
use Rattle.table_walk.specs.Errors.Fault.{Missing}
use Rattle.seg_lexer.specs.declared.service.Service.{Service}
use Rattle.segment_records.specs.Laws.{faults_of_member, missing_at_end}
use Rattle.segment_records.specs.Messages.{nodes_at}
use Rattle.segment_records.specs.Records.{Kept}
use Rattle.segment_records.specs.Segments.{value_in}
use Rattle.segment_records.specs.Steps.{Step}
use Rattle.segment_records.specs.declared.mode.Mode.{Mode}
use Rattle.segment_records.specs.declared.mode.Mode.TheVariants.{Outside, Untabled, Within}
use Rattle.segment_records.specs.Errors.{error_of, fault_line, is_unknown, levels, local_line, versions}
use Rattle.segment_records.specs.Bounds.{bounds_message}
use Rattle.segment_records.specs.WalkedSegments.{SeenSegment, as_segment}
use Rattle.segment_records.specs.Told.{components_seen}

-- the nodes of the table of a mode
abbrev pub nodes_of_mode : Directory → Mode → List Node
nodes_of_mode dir Outside = []
nodes_of_mode dir Untabled = []
nodes_of_mode dir (Within table pairs) = nodes_at dir table

-- what is wrong in the structure at a segment, as its errors
abbrev pub fault_lines : List Node → SeenSegment → List Fault → List ErrorLine
fault_lines nodes seen faults = map (fault_line nodes seen.number (as_segment seen)) faults

-- what is wrong by a step
abbrev pub faults_of_step : Step → List Fault
faults_of_step step = faults_of_member step.entry step.missing step.over

-- what is wrong with a segment that is part of an open message with a table
abbrev pub step_lines : Directory → Mode → SeenSegment → List ErrorLine
step_lines dir (Within table pairs) seen =
    if bounds_message seen.kept.tag then [] else fault_lines (nodes_at dir table) seen (faults_of_step seen.kept.step)
step_lines dir mode seen = []

-- no segment follows, or one that ends an open message
abbrev pub ends_before : Option Kept → Bool
ends_before None = true
ends_before (Some kept) = bounds_message kept.tag

-- what is missing where a message ends with a segment
abbrev pub end_lines : Directory → SeenSegment → List ErrorLine
end_lines dir seen =
    if ends_before seen.next
    then fault_lines (nodes_of_mode dir seen.kept.step.after) seen
    (map Missing (missing_at_end dir seen.kept.step.after))
    else []

-- the structure errors at a segment
abbrev pub structure_seen : Directory → SeenSegment → List ErrorLine
structure_seen dir seen = step_lines dir seen.before seen ++ end_lines dir seen

-- its local errors
abbrev pub local_seen : SeenSegment → List ErrorLine
local_seen seen = map (local_line seen.number (as_segment seen)) seen.kept.local

-- the errors of a segment: those of the structure at it, and its local errors
abbrev pub lines_seen : Directory → SeenSegment → List ErrorLine
lines_seen dir seen = structure_seen dir seen ++ local_seen seen

-- an error of a segment at a component of an element
abbrev pub seen_error : SeenSegment → ℕ → ℕ → Kind → ErrorLine
seen_error seen element component found = error_of seen.number (as_segment seen) element component found

-- what is wrong with the level and the version that a UNB names, whose components are read from its text
abbrev pub opening_seen : Service → Octets → SeenSegment → List ErrorLine
opening_seen service text seen =
    let components = components_seen service text seen in
    when (is_unknown (value_in components 1 1) levels) (seen_error seen 1 1 kind.Syntax)
    ++ when (is_unknown (value_in components 1 2) versions) (seen_error seen 1 2 kind.Syntax)
