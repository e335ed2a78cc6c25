-- What a guide is: a file of lines that narrow a directory.
use Rattle.std.specs.Prelude.{◌-◌, ℕ, Bool, true, false, not, ◌==◌, ◌&&◌, ◌||◌, nat_le, nat_lt, List, [], ◌∷◌, ◌++◌, length, map, find, slice_get, Option, Some, None, is_some, option_and_then, Result, codes, if◌then◌else◌}
use Rattle.std.specs.List.{list_any, enumerate_from, filter_map, flat_map}
use Rattle.std.specs.Option.{option_map}
use Rattle.std.specs.Str.{bytes_eq}
use Rattle.edi_tables.specs.Octets.{Octets}
use Rattle.edi_tables.specs.First.{unless_faulty}
use Rattle.edi_tables.specs.Forms.{is_message_name, is_composite_code, is_element_code, is_code_value, reps_of}
use Rattle.edi_tables.specs.Rows.{when}
use Rattle.edi_tables.specs.Tag.{is_tag_of}
use Rattle.edi_tables.specs.declared.element.CodeList.{CodeList}
use Rattle.edi_tables.specs.declared.element.CompositeDef.{CompositeDef}
use Rattle.edi_tables.specs.declared.element.ElementDef.{ElementDef}
use Rattle.edi_tables.specs.declared.element.PartDef.{PartDef}
use Rattle.edi_tables.specs.declared.segment.ItemDef.{ItemDef}
use Rattle.edi_tables.specs.declared.segment.ItemDef.TheVariants.{Alone, Composite}
use Rattle.edi_tables.specs.declared.segment.MessageDef.{MessageDef}
use Rattle.edi_tables.specs.declared.segment.SegmentDef.{SegmentDef}
use Rattle.edi_tables.specs.declared.segment.TableRow.{TableRow}
use Rattle.edi_octets.specs.Decimal.{decimal_in}
use Rattle.edi_octets.specs.Lines.{Line, lines_of, cells_of}
use Rattle.edi_octets.specs.Profile.{status_in, with_earlier}
use Rattle.dir_compile.specs.declared.parts.Parts.{Parts}
use Rattle.dir_compile.specs.Compile.{element_name, list_name, composite_name, segment_name, message_name, value_name, named_in}
use Rattle.dir_compile.specs.InOrder.{ascending_by}
use Rattle.guide_overlay.specs.Rows.{NodeChange, TableChange, narrowed_rows}
use Rattle.guide_overlay.specs.Rows.NodeChange.{Drop, Keep}
use Rattle.guide_overlay.specs.declared.line.Topic.{Topic}
use Rattle.guide_overlay.specs.declared.line.Topic.TheVariants.{OfTable, OfSegment, OfComposite, OfCodes}
use Rattle.guide_overlay.specs.declared.stop.GuideKind.{GuideKind}
use Rattle.guide_overlay.specs.declared.stop.GuideKind.TheVariants.{BadLine, UnknownName, Twice, BadIndex, NotNarrower}

-- a detail line: a node of a table and what becomes of it, an item of a segment with a status and a greatest number of
-- repetitions, a part of a composite with a status, or a value of a code list that is kept
pub data Detail : Type 0 where
  Node : (node : ℕ) → (change : NodeChange) → Detail
  Item : (item : ℕ) → (must : Bool) → (reps : ℕ) → Detail
  Part : (part : ℕ) → (must : Bool) → Detail
  Value : (value : Octets) → Detail

-- a line of a guide: a head, with what it is of and a name, or a detail
pub data GuideLine : Type 0 where
  Head : (topic : Topic) → (name : Octets) → GuideLine
  Under : (detail : Detail) → GuideLine

-- the word of a head
abbrev pub topic_named : Octets → Option Topic
topic_named word =
    if bytes_eq word (codes "table") then Some OfTable
    else (if bytes_eq word (codes "segment") then Some OfSegment
    else (if bytes_eq word (codes "composite") then Some OfComposite
    else (if bytes_eq word (codes "codes") then Some OfCodes else None)))

-- the form of its name: a message's name, a tag, a composite's code, or an element's code
abbrev pub is_named : Topic → Octets → Bool
is_named OfTable name = is_message_name name
is_named OfSegment name = is_tag_of name
is_named OfComposite name = is_composite_code name
is_named OfCodes name = is_element_code name

-- a head with its name, if its word is one of the four and the name has its form
abbrev pub head_by : Octets → Option Topic → Option GuideLine
head_by name None = None
head_by name (Some topic) = if is_named topic name then Some (Head topic name) else None

-- an item of a segment with its status and its greatest number of repetitions, if all three are there
abbrev pub item_by : Option ℕ → Option Bool → Option ℕ → Option GuideLine
item_by (Some item) (Some must) (Some reps) = Some (Under (Item item must reps))
item_by (Some item) (Some must) None = None
item_by (Some item) None reps = None
item_by None must reps = None

-- a node of a table that is kept, with its status and its greatest count, if all three are there
abbrev pub node_by : Option ℕ → Option Bool → Option ℕ → Option GuideLine
node_by (Some node) (Some must) (Some max) = Some (Under (Node node (Keep must max)))
node_by (Some node) (Some must) None = None
node_by (Some node) None max = None
node_by None must max = None

-- a part of a composite with its status, if both are there
abbrev pub part_by : Option ℕ → Option Bool → Option GuideLine
part_by (Some part) (Some must) = Some (Under (Part part must))
part_by (Some part) None = None
part_by None must = None

-- the node of a drop
abbrev pub drop_by : Option ℕ → Option GuideLine
drop_by found = option_map (λ node. Under (Node node Drop)) found

-- two cells: `keep VALUE`, or a head
abbrev pub line_of_two : Octets → Octets → Option GuideLine
line_of_two word cell =
    if bytes_eq word (codes "keep") then (if is_code_value cell then Some (Under (Value cell)) else None)
    else head_by cell (topic_named word)

-- three cells: `node I drop` or `part I STATUS`
abbrev pub line_of_three : Octets → Octets → Octets → Option GuideLine
line_of_three word i cell =
    if bytes_eq word (codes "node") then (if bytes_eq cell (codes "drop") then drop_by (decimal_in i) else None)
    else (if bytes_eq word (codes "part") then part_by (decimal_in i) (status_in cell) else None)

-- four cells: `node I STATUS MAX` or `item I STATUS REPS`
abbrev pub line_of_four : Octets → Octets → Octets → Octets → Option GuideLine
line_of_four word i status most =
    if bytes_eq word (codes "node") then node_by (decimal_in i) (status_in status) (decimal_in most)
    else (if bytes_eq word (codes "item") then item_by (decimal_in i) (status_in status) (decimal_in most) else None)

-- the line that cells are, if they are one
abbrev pub line_in : List Octets → Option GuideLine
line_in (a ∷ b ∷ []) = line_of_two a b
line_in (a ∷ b ∷ c ∷ []) = line_of_three a b c
line_in (a ∷ b ∷ c ∷ d ∷ []) = line_of_four a b c d
line_in cells = None

-- the lines of these that are in form
abbrev pub lines_read : List Line → List GuideLine
lines_read lines = filter_map (λ line. line_in (cells_of line.octets)) lines

-- a head with the details under it
pub record Section : Type 0 where
  pub topic : Topic
  pub name : Octets
  pub details : List Detail

-- the details up to the next head
abbrev pub details_in_front : List GuideLine → List Detail
details_in_front [] = []
details_in_front (Head topic name ∷ lines) = []
details_in_front (Under detail ∷ lines) = detail ∷ details_in_front lines

-- the sections of a guide: each head with the details up to the next head
abbrev pub sections_of : List GuideLine → List Section
sections_of [] = []
sections_of (Head topic name ∷ lines) =
    record { topic = topic; name = name; details = details_in_front lines } ∷ sections_of lines
sections_of (Under detail ∷ lines) = sections_of lines

-- the sections that lines of a file make
abbrev pub sections_in : List Line → List Section
sections_in lines = sections_of (lines_read lines)

-- two words for the same thing
abbrev pub is_same_topic : Topic → Topic → Bool
is_same_topic OfTable topic =
    elim topic [ OfTable ↦ true | OfSegment ↦ false | OfComposite ↦ false | OfCodes ↦ false ]
is_same_topic OfSegment topic =
    elim topic [ OfTable ↦ false | OfSegment ↦ true | OfComposite ↦ false | OfCodes ↦ false ]
is_same_topic OfComposite topic =
    elim topic [ OfTable ↦ false | OfSegment ↦ false | OfComposite ↦ true | OfCodes ↦ false ]
is_same_topic OfCodes topic =
    elim topic [ OfTable ↦ false | OfSegment ↦ false | OfComposite ↦ false | OfCodes ↦ true ]

-- a section of that topic with that name
abbrev pub is_section_of : Topic → Octets → Section → Bool
is_section_of topic name section = is_same_topic section.topic topic && bytes_eq section.name name

-- the directory has what a head names
abbrev pub is_known : Parts → Topic → Octets → Bool
is_known dir OfTable name = is_some (named_in message_name dir.messages name)
is_known dir OfSegment name = is_some (named_in segment_name dir.segments name)
is_known dir OfComposite name = is_some (named_in composite_name dir.composites name)
is_known dir OfCodes name = is_some (named_in element_name dir.elements name)

-- a head names something of the directory, and occurs once
abbrev pub head_kinds : Parts → List Section → Topic → Octets → List GuideKind
head_kinds dir sections topic name =
    when (not (is_known dir topic name)) UnknownName ++ when (list_any (is_section_of topic name) sections) Twice

-- what a detail comes under
abbrev pub topic_of : Detail → Topic
topic_of (Node node change) = OfTable
topic_of (Item item must reps) = OfSegment
topic_of (Part part must) = OfComposite
topic_of (Value value) = OfCodes

-- two details of one node, item or part, or of one value
abbrev pub is_same_detail : Detail → Detail → Bool
is_same_detail (Node i change) other =
    elim other [ Node j change ↦ i == j | Item j must reps ↦ false | Part j must ↦ false | Value value ↦ false ]
is_same_detail (Item i must reps) other =
    elim other [ Node j change ↦ false | Item j must reps ↦ i == j | Part j must ↦ false | Value value ↦ false ]
is_same_detail (Part i must) other =
    elim other [ Node j change ↦ false | Item j must reps ↦ false | Part j must ↦ i == j | Value value ↦ false ]
is_same_detail (Value v) other =
    elim other [ Node j change ↦ false | Item j must reps ↦ false | Part j must ↦ false | Value w ↦ bytes_eq v w ]

-- a status that is no weaker: mandatory, where the base's is
abbrev pub is_no_weaker : Bool → Bool → Bool
is_no_weaker base must = not base || must

-- a count from 1 to the base's
abbrev pub is_no_greater : ℕ → ℕ → Bool
is_no_greater base most = nat_lt 0 most && nat_le most base

-- only a node that is conditional is dropped
abbrev pub is_row_narrower : NodeChange → TableRow → Bool
is_row_narrower Drop row = not row.must
is_row_narrower (Keep must max) row = is_no_weaker row.must must && is_no_greater row.max max

-- the status of an item
abbrev pub is_item_must : ItemDef → Bool
is_item_must (Alone part reps) = part.must
is_item_must (Composite code must reps) = must

-- a status and a number of repetitions narrow an item: no weaker, and from 1 to the base's
abbrev pub is_item_narrower : Bool → ℕ → ItemDef → Bool
is_item_narrower must reps item = is_no_weaker (is_item_must item) must && is_no_greater (reps_of item) reps

-- the member of that number, from 1
abbrev pub member_of : {A : Type 0} → List A → ℕ → Option A
member_of members i = if i == 0 then None else slice_get members (i - 1)

-- what a number names is there, and is narrowed
abbrev pub kinds_against : {A : Type 0} → (A → Bool) → Option A → List GuideKind
kinds_against is_narrower None = BadIndex ∷ []
kinds_against is_narrower (Some x) = when (not (is_narrower x)) NotNarrower

-- a value is in the list of the base, where there is one
abbrev pub value_kinds : Octets → Option CodeList → List GuideKind
value_kinds value None = []
value_kinds value (Some list) = when (not (is_some (named_in value_name list.values value))) NotNarrower

-- the rules that a detail breaks against the base; a node is numbered from 0, an item or a part from 1
abbrev pub base_kinds : Parts → Octets → Detail → List GuideKind
base_kinds dir name (Node i change) =
    kinds_against (is_row_narrower change)
    (option_and_then (λ message. slice_get message.rows i) (named_in message_name dir.messages name))
base_kinds dir name (Item i must reps) =
    kinds_against (is_item_narrower must reps)
    (option_and_then (λ segment. member_of segment.items i) (named_in segment_name dir.segments name))
base_kinds dir name (Part i must) =
    kinds_against (λ part. is_no_weaker part.must must)
    (option_and_then (λ composite. member_of composite.parts i) (named_in composite_name dir.composites name))
base_kinds dir name (Value value) = value_kinds value (named_in list_name dir.lists name)

-- a detail comes under a head of its kind, once, and narrows what the base has
abbrev pub detail_kinds : Parts → Option Section → Detail → List GuideKind
detail_kinds dir None detail = BadLine ∷ []
detail_kinds dir (Some section) detail =
    if is_same_topic section.topic (topic_of detail)
    then when (list_any (is_same_detail detail) section.details) Twice ++ base_kinds dir section.name detail
    else BadLine ∷ []

-- the last section
abbrev pub last_of : List Section → Option Section
last_of sections = slice_get sections (length sections - 1)

-- the rules that a line breaks after these sections, in judging order
abbrev pub read_kinds : Parts → List Section → Option GuideLine → List GuideKind
read_kinds dir sections None = BadLine ∷ []
read_kinds dir sections (Some (Head topic name)) = head_kinds dir sections topic name
read_kinds dir sections (Some (Under detail)) = detail_kinds dir (last_of sections) detail

-- a line without a cell breaks none
abbrev pub line_kinds : Parts → List Section → List Octets → List GuideKind
line_kinds dir sections [] = []
line_kinds dir sections (cell ∷ cells) = read_kinds dir sections (line_in (cell ∷ cells))

-- a fault of a guide: a line, and the rule that it breaks
pub record GuideFault : Type 0 where
  pub line : ℕ
  pub kind : GuideKind

-- the fault of a line that breaks this rule, by the number of the line
abbrev pub fault_at : Line → GuideKind → GuideFault
fault_at line kind = record { line = line.number; kind = kind }

-- the faults of a line after others
abbrev pub line_faults : Parts → List Line → Line → List GuideFault
line_faults dir earlier line = map (fault_at line) (line_kinds dir (sections_in earlier) (cells_of line.octets))

-- the faults of a guide, in judging order
abbrev pub guide_faults : Parts → List Line → List GuideFault
guide_faults dir lines = flat_map (λ p. line_faults dir p.0 p.1) (with_earlier lines)

-- the details that a guide has for something of the directory
abbrev pub details_for : List Section → Topic → Octets → List Detail
details_for sections topic name =
    elim (find (is_section_of topic name) sections) [ None ↦ [] | Some section ↦ section.details ]

-- what a detail says of a node, if it is of one
abbrev pub node_change : Detail → Option (ℕ × NodeChange)
node_change (Node node change) = Some (node, change)
node_change (Item item must reps) = None
node_change (Part part must) = None
node_change (Value value) = None

-- what details say of the nodes of a table
abbrev pub changes_in : List Detail → TableChange
changes_in details = filter_map node_change details

-- a message whose table the guide narrows
abbrev pub narrowed_message : List Section → MessageDef → MessageDef
narrowed_message sections message =
    record message { rows = narrowed_rows (changes_in (details_for sections OfTable message.name)) message.rows }

-- an item with that status and that greatest number of repetitions
abbrev pub item_with : Bool → ℕ → ItemDef → ItemDef
item_with must reps (Alone part old) = Alone (record part { must = must }) reps
item_with must reps (Composite code old most) = Composite code must reps

-- an item as its line has it, if there is one
abbrev pub item_by_line : ItemDef → Option Detail → ItemDef
item_by_line item None = item
item_by_line item (Some (Item i must reps)) = item_with must reps item
item_by_line item (Some (Node i change)) = item
item_by_line item (Some (Part i must)) = item
item_by_line item (Some (Value value)) = item

-- a detail is of the item of that number
abbrev pub is_item : ℕ → Detail → Bool
is_item i (Item j must reps) = j == i
is_item i (Node j change) = false
is_item i (Part j must) = false
is_item i (Value value) = false

-- an item, with its number, as the first detail of that number has it
abbrev pub narrowed_item : List Detail → ℕ × ItemDef → ItemDef
narrowed_item details p = item_by_line p.1 (find (is_item p.0) details)

-- a segment whose items the guide narrows
abbrev pub narrowed_segment : List Section → SegmentDef → SegmentDef
narrowed_segment sections segment = record segment {
  items = map (narrowed_item (details_for sections OfSegment (segment_name segment))) (enumerate_from 1 segment.items);
}

-- a part as its line has it, if there is one
abbrev pub part_by_line : PartDef → Option Detail → PartDef
part_by_line part None = part
part_by_line part (Some (Part i must)) = record part { must = must }
part_by_line part (Some (Node i change)) = part
part_by_line part (Some (Item i must reps)) = part
part_by_line part (Some (Value value)) = part

-- a detail is of the part of that number
abbrev pub is_part : ℕ → Detail → Bool
is_part i (Part j must) = j == i
is_part i (Node j change) = false
is_part i (Item j must reps) = false
is_part i (Value value) = false

-- a part, with its number, as the first detail of that number has it
abbrev pub narrowed_part : List Detail → ℕ × PartDef → PartDef
narrowed_part details p = part_by_line p.1 (find (is_part p.0) details)

-- a composite whose parts the guide narrows
abbrev pub narrowed_composite : List Section → CompositeDef → CompositeDef
narrowed_composite sections composite = record composite {
  parts = map (narrowed_part (details_for sections OfComposite (composite_name composite)))
      (enumerate_from 1 composite.parts);
}

-- the value that a detail keeps, if it is of one
abbrev pub value_kept : Detail → Option Octets
value_kept (Value value) = Some value
value_kept (Node node change) = None
value_kept (Item item must reps) = None
value_kept (Part part must) = None

-- the values that details keep, in their order
abbrev pub values_in : List Detail → List Octets
values_in details = filter_map value_kept details

-- the list of a data element: the kept values in ascending order where the guide has a head for it, else the base's
abbrev pub list_left : List Section → Parts → ElementDef → Option CodeList
list_left sections dir element =
    elim (find (is_section_of OfCodes (element_name element)) sections) [
      | None ↦ named_in list_name dir.lists (element_name element)
      | Some section ↦
          Some (record { element = element.code; values = ascending_by value_name (values_in section.details) })
    ]

-- the parts of a directory as these sections of a guide have them
abbrev pub narrowed : List Section → Parts → Parts
narrowed sections dir = record dir {
  lists = filter_map (list_left sections dir) dir.elements;
  composites = map (narrowed_composite sections) dir.composites;
  segments = map (narrowed_segment sections) dir.segments;
  messages = map (narrowed_message sections) dir.messages;
}

-- a guide's first fault, or the directory that it narrows
unfoldable pub narrow_of : Parts → Octets → Result Parts GuideFault
narrow_of dir file = unless_faulty (guide_faults dir (lines_of file)) (narrowed (sections_in (lines_of file)) dir)
