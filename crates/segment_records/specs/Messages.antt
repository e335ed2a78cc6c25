-- Where the segments of a text are in its messages: with the segment tables of a directory, by the extents of
-- messages alone. Places are counted from 0.
use Rattle.std.specs.Prelude.{ℕ, ◌+◌, ◌-◌, ◌==◌, List, [], filter, slice_get, slice_index_or, slice_range, Option, Some, None, is_some, if◌then◌else◌}
use Rattle.std.specs.Option.{option_and_then}
use Rattle.edi_tables.specs.declared.tag.Tag.{Tag}
use Rattle.edi_tables.specs.declared.table.Node.{Node}
use Rattle.edi_tables.specs.Extents.{Extent, message_at, message_closed_at}
use Rattle.edi_tables.specs.Pairs.{pairs_of}
use Rattle.dir_compile.specs.Directory.{Directory, table_named, tables_of}
use Rattle.seg_lexer.specs.Fields.{Component}
use Rattle.table_walk.specs.Reading.{reading_of}
use Rattle.table_walk.specs.Errors.{StructureError, structure_errors_of}
use Rattle.segment_records.specs.Segments.{Segment, tags_in, value_in}
use Rattle.segment_records.specs.declared.mode.Mode.{Mode}
use Rattle.segment_records.specs.declared.mode.Mode.TheVariants as mode

-- the number of the segment table that a UNH names: message type, version, release and agency (0065, 0052, 0054 and
-- 0051), the first four components of element 2
abbrev pub table_for : Directory → List Component → Option ℕ
table_for dir components =
    table_named dir
    (value_in components 2 1) (value_in components 2 2) (value_in components 2 3) (value_in components 2 4)

-- the nodes of the table of this number
abbrev pub nodes_at : Directory → ℕ → List Node
nodes_at dir table = slice_index_or (tables_of dir) table []

-- where a segment is: in no message, in a message without a table, or in a message with the table of this number and
-- this extent
pub data Position : Type 0 where
  Outside : Position
  Untabled : Position
  Within : (table : ℕ) → (extent : Extent) → Position

-- the segment that opens a message
abbrev pub opening_segment_of : List Segment → Extent → Option Segment
opening_segment_of segments e = slice_get segments (e.first - 1)

-- the position of the segments of a message
abbrev pub position_in : Directory → List Segment → Extent → Position
position_in dir segments e =
    elim (option_and_then (λ opening. table_for dir opening.components) (opening_segment_of segments e))
    [ None ↦ Untabled | Some table ↦ Within table e ]

-- the position of the segment at place i
unfoldable pub position_at : Directory → List Segment → ℕ → Position
position_at dir segments i =
    elim (message_at (tags_in segments) i) [ None ↦ Outside | Some e ↦ position_in dir segments e ]

-- the tags of a message up to the segment at place i, without it
abbrev pub tags_before : List Segment → Extent → ℕ → List (Option Tag)
tags_before segments e i = slice_range (tags_in segments) (e.first - 1) i

-- the tags of a whole message
abbrev pub tags_of_message : List Segment → Extent → List (Option Tag)
tags_of_message segments e = tags_before segments e e.last

-- where the segments of a message are in its table
abbrev pub message_reading : Directory → List Segment → ℕ → Extent → List (Option ℕ)
message_reading dir segments table e = reading_of (nodes_at dir table) (tags_of_message segments e)

-- what is wrong in the structure of a message at the segment at place i
abbrev pub message_faults : Directory → List Segment → ℕ → Extent → ℕ → List StructureError
message_faults dir segments table e i =
    filter (λ error. e.first + error.at == i + 1)
    (structure_errors_of (nodes_at dir table) (tags_of_message segments e) e.closed)

-- what is wrong in the structure of its message at a segment in this position: nothing where it has no table
abbrev pub faults_in : Directory → List Segment → ℕ → Position → List StructureError
faults_in dir segments i Outside = []
faults_in dir segments i Untabled = []
faults_in dir segments i (Within table e) = message_faults dir segments table e i

-- what is wrong in the structure of its message at the segment at place i
unfoldable pub structure_errors_at : Directory → List Segment → ℕ → List StructureError
structure_errors_at dir segments i = faults_in dir segments i (position_at dir segments i)

-- the mode after the segment at place i, which is in this position and doesn't close its message
abbrev pub mode_in : Directory → List Segment → ℕ → Position → Mode
mode_in dir segments i Outside = mode.Outside
mode_in dir segments i Untabled = mode.Untabled
mode_in dir segments i (Within table e) =
    let nodes = nodes_at dir table in
    mode.Within table (pairs_of nodes (reading_of nodes (tags_before segments e (i + 1))))

-- the mode after the segment at place i: outside where it closes its message
abbrev pub mode_at : Directory → List Segment → ℕ → Mode
mode_at dir segments i =
    if is_some (message_closed_at (tags_in segments) i) then mode.Outside
    else mode_in dir segments i (position_at dir segments i)

-- the mode after the first k segments
unfoldable pub mode_after : Directory → List Segment → ℕ → Mode
mode_after dir segments k = if k == 0 then mode.Outside else mode_at dir segments (k - 1)
