-- The errors of a segment by itself and by its message, as lines of the error list.
use Rattle.std.specs.Prelude.{ℕ, ◌+◌, Bool, not, ◌&&◌, List, [], ◌∷◌, ◌++◌, map, None, codes, if◌then◌else◌}
use Rattle.std.specs.List.{list_any}
use Rattle.std.specs.Str.{bytes_eq}
use Rattle.dir_compile.specs.Directory.{Directory}
use Rattle.edi_tables.specs.Octets.{Octets}
use Rattle.edi_tables.specs.declared.table.Node.{Node}
use Rattle.edi_tables.specs.Walk.{entry_for, is_group_at, is_trigger_at, tag_at}
use Rattle.seg_lexer.specs.declared.context.Context.{Context}
use Rattle.envelope_check.specs.declared.head.SegmentMark.{SegmentMark}
use Rattle.error_ledger.specs.declared.error.ErrorLine.{ErrorLine}
use Rattle.error_ledger.specs.declared.kind.Kind.{Kind}
use Rattle.error_ledger.specs.declared.kind.Kind.TheVariants as kind
use Rattle.element_check.specs.Local.{local_errors_of, has_octet}
use Rattle.element_check.specs.declared.error.LocalError.{LocalError}
use Rattle.table_walk.specs.Errors.{Fault}
use Rattle.table_walk.specs.Errors.Fault.{Missing, Over, Unplaced}
use Rattle.segment_records.specs.Segments.{Segment}
use Rattle.segment_records.specs.Messages.{Position, nodes_at, position_at, structure_errors_at}
use Rattle.segment_records.specs.Messages.Position.{Outside, Untabled, Within}
use Rattle.segment_records.specs.Heads.{mark_of}

-- an error of segment k, which has this mark, at a component of an element; 0 is the whole segment, or the element
abbrev pub error_with : ℕ → SegmentMark → ℕ → ℕ → Kind → ErrorLine
error_with k mark element component found = record {
  segment = k;
  start = mark.start;
  tag = mark.tag;
  element = element;
  component = component;
  kind = found;
  node = 0;
  missing = None;
}

-- an error of segment k, with the segment's own mark, at a component of an element
abbrev pub error_of : ℕ → Segment → ℕ → ℕ → Kind → ErrorLine
error_of k segment element component found = error_with k (mark_of segment) element component found

-- a local error of segment k
abbrev pub local_line : ℕ → Segment → LocalError → ErrorLine
local_line k segment error = error_of k segment error.element error.component error.kind

-- the local errors of segment k
abbrev pub local_lines : Directory → Context → ℕ → Segment → List ErrorLine
local_lines dir context k segment = map (local_line k segment) (local_errors_of dir context segment.components)

-- that a node is missing: a segment or a group
abbrev pub missing_kind : List Node → ℕ → Kind
missing_kind nodes node = if is_group_at nodes node then kind.MissingGroup else kind.MissingSegment

-- a node that is missing at segment k: a segment, or a group by its trigger
abbrev pub missing_line : List Node → ℕ → Segment → ℕ → ErrorLine
missing_line nodes k segment node = record (error_of k segment 0 0 (missing_kind nodes node)) {
  node = node;
  missing = tag_at nodes (entry_for nodes node);
}

-- what is wrong in the structure of a message at segment k
abbrev pub fault_line : List Node → ℕ → Segment → Fault → ErrorLine
fault_line nodes k segment (Missing node) = missing_line nodes k segment node
fault_line nodes k segment (Over entry) =
    error_of k segment 0 0 (if is_trigger_at nodes entry then kind.TooManyGroups else kind.TooManySegments)
fault_line nodes k segment Unplaced = error_of k segment 0 0 kind.Unplaced

-- the nodes of the table that a segment in this position is placed in
abbrev pub nodes_in : Directory → Position → List Node
nodes_in dir Outside = []
nodes_in dir Untabled = []
nodes_in dir (Within table e) = nodes_at dir table

-- the structure errors at the segment at place i
abbrev pub structure_lines : Directory → List Segment → ℕ → Segment → List ErrorLine
structure_lines dir segments i segment =
    map (λ error. fault_line (nodes_in dir (position_at dir segments i)) (i + 1) segment error.fault)
    (structure_errors_at dir segments i)

-- a value is filled, and none of these
abbrev pub is_unknown : Octets → List Octets → Bool
is_unknown value known = has_octet value && not (list_any (bytes_eq value) known)

-- the levels of the syntax (0001): UNOA to UNOF
abbrev pub levels : List Octets
levels = codes "UNOA" ∷ codes "UNOB" ∷ codes "UNOC" ∷ codes "UNOD" ∷ codes "UNOE" ∷ codes "UNOF" ∷ []

-- the versions of the syntax (0002): 1 to 4
abbrev pub versions : List Octets
versions = codes "1" ∷ codes "2" ∷ codes "3" ∷ codes "4" ∷ []

-- the errors of the segment at place i by itself and by its message
abbrev pub segment_lines : Directory → Context → List Segment → ℕ × Segment → List ErrorLine
segment_lines dir context segments p = structure_lines dir segments p.0 p.1 ++ local_lines dir context (p.0 + 1) p.1
