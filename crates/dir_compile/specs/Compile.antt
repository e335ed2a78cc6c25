-- Which parts are a directory.
use Rattle.std.specs.Prelude.{Bool, not, ◌&&◌, List, [], ◌∷◌, ◌++◌, find, Option, Some, None, is_some, codes}
use Rattle.std.specs.List.{list_any, flat_map}
use Rattle.std.specs.Str.{bytes_eq}
use Rattle.edi_tables.specs.Octets.{Octets}
use Rattle.edi_tables.specs.declared.tag.Tag.{Tag}
use Rattle.edi_tables.specs.declared.element.ElementDef.{ElementDef}
use Rattle.edi_tables.specs.declared.element.CodeList.{CodeList}
use Rattle.edi_tables.specs.declared.element.PartDef.{PartDef}
use Rattle.edi_tables.specs.declared.element.CompositeDef.{CompositeDef}
use Rattle.edi_tables.specs.declared.segment.ItemDef.{ItemDef}
use Rattle.edi_tables.specs.declared.segment.ItemDef.TheVariants.{Alone, Composite}
use Rattle.edi_tables.specs.declared.segment.SegmentDef.{SegmentDef}
use Rattle.edi_tables.specs.declared.segment.TableRow.{TableRow}
use Rattle.edi_tables.specs.declared.segment.MessageDef.{MessageDef}
use Rattle.edi_tables.specs.Filled.{is_filled}
use Rattle.edi_tables.specs.Rows.{table_faults, when}
use Rattle.edi_tables.specs.Same.{is_same_repr}
use Rattle.edi_octets.specs.Profile.{with_earlier}
use Rattle.service_tables.specs.ServiceTables.{service_items_of}
use Rattle.dir_compile.specs.declared.parts.Parts.{Parts}
use Rattle.dir_compile.specs.Stop.{PartsFault, fault_with}
use Rattle.dir_compile.specs.declared.stop.CompileKind.TheVariants.{Twice, UnknownElement, ReprDiffers, Reserved, UnknownComposite, UnknownSegment, BadTable}

-- the name of a data element is its code
abbrev pub element_name : ElementDef → Octets
element_name element = element.code.octets

-- the name of a code list is the code of its data element
abbrev pub list_name : CodeList → Octets
list_name list = list.element.octets

-- the name of a composite is its code
abbrev pub composite_name : CompositeDef → Octets
composite_name composite = composite.code.octets

-- the name of a segment is its tag
abbrev pub segment_name : SegmentDef → Octets
segment_name segment = segment.tag.octets

-- a message has a name of its own
abbrev pub message_name : MessageDef → Octets
message_name message = message.name

-- a value is itself its name
abbrev pub value_name : Octets → Octets
value_name value = value

-- names that are among those before them
abbrev pub twice_in : {A : Type 0} → (A → Octets) → List A → List PartsFault
twice_in name xs =
    flat_map (λ p. when (list_any (λ x. bytes_eq (name x) (name p.1)) p.0) (fault_with Twice (name p.1)))
    (with_earlier xs)

-- no definition and no code occurs twice: elements, code lists, the codes of each list, composites, segments, messages
abbrev pub twice_faults : Parts → List PartsFault
twice_faults parts =
    twice_in element_name parts.elements ++ twice_in list_name parts.lists
    ++ flat_map (λ list. twice_in value_name list.values) parts.lists
    ++ twice_in composite_name parts.composites ++ twice_in segment_name parts.segments
    ++ twice_in message_name parts.messages

-- the definition of that name, if there is one
abbrev pub named_in : {A : Type 0} → (A → Octets) → List A → Octets → Option A
named_in name xs wanted = find (λ x. bytes_eq (name x) wanted) xs

-- each list is of an element of the directory
abbrev pub list_fault : Parts → CodeList → List PartsFault
list_fault parts list =
    when (not (is_some (named_in element_name parts.elements (list_name list))))
    (fault_with UnknownElement (list_name list))

-- what the code lists break, in order
abbrev pub list_faults : Parts → List PartsFault
list_faults parts = flat_map (list_fault parts) parts.lists

-- a part names this element, which there must be, and has its representation
abbrev pub part_against : PartDef → Option ElementDef → List PartsFault
part_against part None = (fault_with UnknownElement part.code.octets) ∷ []
part_against part (Some element) =
    when (not (is_same_repr part.repr element.repr)) (fault_with ReprDiffers part.code.octets)

-- a part names an element of the directory, with that element's representation
abbrev pub part_faults : Parts → PartDef → List PartsFault
part_faults parts part = part_against part (named_in element_name parts.elements part.code.octets)

-- what the parts of a composite break, in order
abbrev pub composite_fault : Parts → CompositeDef → List PartsFault
composite_fault parts composite = flat_map (part_faults parts) composite.parts

-- what the composites break, in order
abbrev pub composite_faults : Parts → List PartsFault
composite_faults parts = flat_map (composite_fault parts) parts.composites

-- an item is such a part, or names a composite of the directory
abbrev pub item_faults : Parts → ItemDef → List PartsFault
item_faults parts (Alone part reps) = part_faults parts part
item_faults parts (Composite code must reps) =
    when (not (is_some (named_in composite_name parts.composites code.octets)))
    (fault_with UnknownComposite code.octets)

-- a tag of a service segment
abbrev pub is_service_tag : Octets → Bool
is_service_tag tag = is_some (service_items_of tag)

-- a segment isn't a service segment, and its items are good
abbrev pub segment_fault : Parts → SegmentDef → List PartsFault
segment_fault parts segment =
    when (is_service_tag (segment_name segment)) (fault_with Reserved (segment_name segment))
    ++ flat_map (item_faults parts) segment.items

-- what the segments break, in order
abbrev pub segment_faults : Parts → List PartsFault
segment_faults parts = flat_map (segment_fault parts) parts.segments

-- a tag is that of a segment of the directory or of a service segment; a group has none
abbrev pub tag_faults : Parts → Option Tag → List PartsFault
tag_faults parts None = []
tag_faults parts (Some tag) =
    when (not (is_some (named_in segment_name parts.segments tag.octets)) && not (is_service_tag tag.octets))
    (fault_with UnknownSegment tag.octets)

-- a row names a segment of the directory or a service segment, or is that of a group
abbrev pub row_faults : Parts → TableRow → List PartsFault
row_faults parts row = tag_faults parts row.tag

-- a message isn't CONTRL, its rows name segments, and they are a segment table
abbrev pub message_fault : Parts → MessageDef → List PartsFault
message_fault parts message =
    when (bytes_eq (message_name message) (codes "CONTRL")) (fault_with Reserved (message_name message))
    ++ flat_map (row_faults parts) message.rows
    ++ when (is_filled (table_faults message.rows)) (fault_with BadTable (message_name message))

-- what the messages break, in order
abbrev pub message_faults : Parts → List PartsFault
message_faults parts = flat_map (message_fault parts) parts.messages

-- all faults of parts, in judging order
unfoldable pub compile_faults : Parts → List PartsFault
compile_faults parts =
    twice_faults parts ++ list_faults parts ++ composite_faults parts ++ segment_faults parts ++ message_faults parts
