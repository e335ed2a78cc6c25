-- What a segment file is, read with known composites.
use Rattle.std.specs.Prelude.{ℕ, Bool, false, not, ◌&&◌, List, [], ◌∷◌, ◌++◌, length, map, filter, find, take_while, Option, Some, None, is_some, Result, if◌then◌else◌}
use Rattle.std.specs.Cmp.Lexicographic.{pointwise}
use Rattle.std.specs.List.{filter_map, flat_map, position}
use Rattle.std.specs.Str.{bytes_eq}
use Rattle.edi_tables.specs.Octets.{Octets}
use Rattle.edi_tables.specs.Tag.{is_tag_of}
use Rattle.edi_tables.specs.declared.element.Code.{Code}
use Rattle.edi_tables.specs.declared.element.PartDef.{PartDef}
use Rattle.edi_tables.specs.declared.element.CompositeDef.{CompositeDef}
use Rattle.edi_tables.specs.declared.segment.ItemDef.{ItemDef}
use Rattle.edi_tables.specs.declared.segment.ItemDef.TheVariants.{Alone, Composite}
use Rattle.edi_tables.specs.declared.segment.SegmentDef.{SegmentDef}
use Rattle.edi_octets.specs.declared.fault.DirFault.{DirFault}
use Rattle.edi_octets.specs.declared.fault.DirKind.TheVariants.{BadLine, PartsDiffer}
use Rattle.edi_octets.specs.Lines.{Line, lines_of}
use Rattle.edi_tables.specs.Filled.{is_filled}
use Rattle.edi_tables.specs.Forms.{is_element_code}
use Rattle.edi_octets.specs.Profile.{fields_of, first_field, position_of, entries_of, with_earlier}
use Rattle.edi_tables.specs.First.{unless_faulty}
use Rattle.edi_tables.specs.Same.{is_same_bool, is_same_repr}
use Rattle.edi_octets.specs.DirStop.{at_line}
use Rattle.edi_octets.specs.Head.{head_faults, head_field}
use Rattle.dir_segments.specs.Parts.{is_item_line, fields_past_position, is_placed, last_of, count_faults, is_element_form, is_composite_form, part_in, element_status, element_repr, composite_status, status_fault, element_fault, fault_list}
use Rattle.dir_segments.specs.Repetitions.{item_fields, reps_in}

-- an item: its line, the fields after the position with the number of repetitions taken out, that number, and the
-- detail lines after it, up to the next item line
pub record Item : Type 0 where
  pub line : Line
  pub fields : List Octets
  pub reps : ℕ
  pub details : List Line

-- the lines up to the next item line
abbrev pub details_of : List Line → List Line
details_of lines = take_while (λ l. not (is_item_line l)) lines

-- an item line, and its detail lines among those after it
abbrev pub item_at : Line → List Line → Item
item_at line lines =
    let fields = fields_past_position line in
    record { line = line; fields = item_fields fields; reps = reps_in fields; details = details_of lines }

-- the items of an entry's lines; lines before the first item line are text
abbrev pub items_of : List Line → List Item
items_of [] = []
items_of (line ∷ lines) =
    if is_item_line line then item_at line lines ∷ items_of lines else items_of lines

-- what an item line with these fields breaks, after the position before: a position, and a data element or a composite
abbrev pub line_faults : Option ℕ → Line → List Octets → List DirFault
line_faults before line fields =
    fault_list line
    (if not (is_placed line) then Some BadLine
    else (if is_element_form fields then element_fault before line (element_status fields) (element_repr fields)
    else (if is_composite_form fields then status_fault before line (composite_status fields) else Some BadLine)))

-- a part line: a detail line whose first field is an element code; other detail lines are text
abbrev pub is_part_line : Line → Bool
is_part_line line = is_element_code (first_field (fields_of line.octets))

-- a part line has a code, a name, a status and a representation, and comes below a composite
abbrev pub detail_faults : Bool → Line → List DirFault
detail_faults below_composite line =
    if not (is_part_line line) then []
    else (if below_composite && is_some (part_in (fields_of line.octets)) then [] else at_line BadLine line ∷ [])

-- the parts that the part lines among an item's detail lines repeat
abbrev pub repeated_parts : List Line → List PartDef
repeated_parts details = filter_map (λ line. part_in (fields_of line.octets)) (filter is_part_line details)

-- two parts with the same code, status and representation
abbrev pub is_same_part : PartDef → PartDef → Bool
is_same_part p q =
    bytes_eq p.code.octets q.code.octets && is_same_bool p.must q.must && is_same_repr p.repr q.repr

-- the first known composite of that code, if there is one
abbrev pub known_composite : List CompositeDef → Octets → Option CompositeDef
known_composite known code = find (λ c. bytes_eq c.code.octets code) known

-- the place of that composite among those known, if there is one
abbrev pub known_place : List CompositeDef → Octets → Option ℕ
known_place known code = position (λ c. bytes_eq c.code.octets code) known

-- part lines below a known composite are exactly its parts, in order; where there are none, nothing differs
abbrev pub differs : List PartDef → Option CompositeDef → Bool
differs parts None = false
differs parts (Some composite) = is_filled parts && not (pointwise is_same_part parts composite.parts)

-- an item's end: the parts that its part lines repeat are those of its composite, if it is one that is known
abbrev pub item_end_faults : List CompositeDef → Line → List Octets → List PartDef → List DirFault
item_end_faults known line fields parts =
    if is_composite_form fields && differs parts (known_composite known (first_field fields))
    then at_line PartsDiffer line ∷ [] else []

-- an item after the position before: its line, its detail lines in order, its end
abbrev pub item_faults : List CompositeDef → Option ℕ → Item → List DirFault
item_faults known before item =
    line_faults before item.line item.fields
    ++ (flat_map (detail_faults (is_composite_form item.fields)) item.details
    ++ item_end_faults known item.line item.fields (repeated_parts item.details))

-- the position of an item
abbrev pub item_position : Item → ℕ
item_position item = position_of item.line

-- what items break, in order
abbrev pub items_faults : List CompositeDef → List Item → List DirFault
items_faults known items =
    flat_map (λ p. item_faults known (last_of (map item_position p.0)) p.1) (with_earlier items)

-- an entry of this head and these items, after others: its head, its items in order, its end: it has 1 to 99 items
abbrev pub entry_faults : List CompositeDef → List (List Line) → Line → List Item → List DirFault
entry_faults known earlier head items =
    head_faults is_tag_of earlier head ++ (items_faults known items ++ count_faults head (length items))

-- what an entry after these breaks
abbrev pub segment_faults : List CompositeDef → List (List Line) → List Line → List DirFault
segment_faults known earlier [] = []
segment_faults known earlier (head ∷ body) = entry_faults known earlier head (items_of body)

-- the item that a composite is, if its status is good
abbrev pub composite_item : Code → Option Bool → ℕ → Option ItemDef
composite_item code None reps = None
composite_item code (Some must) reps = Some (Composite code must reps)

-- the item that a data element's part is
abbrev pub alone_item : Option PartDef → ℕ → Option ItemDef
alone_item None reps = None
alone_item (Some part) reps = Some (Alone part reps)

-- the item that fields with this greatest number of repetitions define
abbrev pub item_in : List Octets → ℕ → Option ItemDef
item_in fields reps =
    if is_composite_form fields
    then composite_item (record { octets = first_field fields }) (composite_status fields) reps
    else alone_item (part_in fields) reps

-- the item of a segment that an item's line defines, if it defines one
abbrev pub item_of : Item → Option ItemDef
item_of item = item_in item.fields item.reps

-- the items that these define
abbrev pub items_in : List Item → List ItemDef
items_in items = filter_map item_of items

-- the segment of a head and these items
abbrev pub segment_with : Line → List Item → SegmentDef
segment_with head items = record { tag = record { octets = head_field (head ∷ []) }; items = items_in items }

-- the segment of an entry
abbrev pub segment_of : List Line → SegmentDef
segment_of [] = record { tag = record { octets = [] }; items = [] }
segment_of (head ∷ body) = segment_with head (items_of body)

-- what a segment file gives: a segment for each entry, or its first fault
unfoldable pub segments_in_file : List CompositeDef → Octets → Result (List SegmentDef) DirFault
segments_in_file known file =
    let entries = entries_of (lines_of file) in
    unless_faulty (flat_map (λ p. segment_faults known p.0 p.1) (with_earlier entries)) (map segment_of entries)
