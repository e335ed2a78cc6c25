-- The spellings of a directory: the one that is written, and the older one that is read besides.
use Rattle.std.specs.Prelude.{◌≡◌, ◌⊎◌, ◌<◌, ◌^◌, ◌==◌, ◌||◌, nat_eq, ℕ, Bool, true, false, List, [], ◌∷◌, ◌++◌, length, Option, Some, None, codes, decimal}
use Rattle.std.specs.List.{flat_map, join_with_byte, list_all, starts_with}
use Rattle.edi_tables.specs.Octets.{Octets}
use Rattle.edi_tables.specs.declared.tag.Tag.{Tag}
use Rattle.edi_tables.specs.declared.element.Class.{Class}
use Rattle.edi_tables.specs.declared.element.Class.TheVariants.{A, N, An}
use Rattle.edi_tables.specs.declared.element.Repr.{Repr}
use Rattle.edi_tables.specs.declared.element.ElementDef.{ElementDef}
use Rattle.edi_tables.specs.declared.element.CodeList.{CodeList}
use Rattle.edi_tables.specs.declared.element.PartDef.{PartDef}
use Rattle.edi_tables.specs.declared.element.CompositeDef.{CompositeDef}
use Rattle.edi_tables.specs.declared.segment.ItemDef.{ItemDef}
use Rattle.edi_tables.specs.declared.segment.ItemDef.TheVariants.{Alone, Composite}
use Rattle.edi_tables.specs.declared.segment.SegmentDef.{SegmentDef}
use Rattle.edi_tables.specs.declared.segment.TableRow.{TableRow}
use Rattle.edi_tables.specs.declared.segment.MessageDef.{MessageDef}
use Rattle.edi_tables.specs.Forms.{reps_of}
use Rattle.edi_octets.specs.Profile.{status_text}
use Rattle.dir_compile.specs.declared.parts.Parts.{Parts}
use Rattle.dir_store.specs.declared.version.StoreVersion.{StoreVersion}
use Rattle.dir_store.specs.declared.version.StoreVersion.TheVariants.{First, Second}

-- a line: words separated by one space, and LF
abbrev pub line_of : List Octets → Octets
line_of words = join_with_byte 32 words ++ 10 ∷ []

-- a list under a name: a line of the name and how many members there are, and then the members
abbrev pub listed : {A : Type 0} → Octets → (A → Octets) → List A → Octets
listed name text members = line_of (name ∷ decimal (length members) ∷ []) ++ flat_map text members

-- a class: letters, digits, or both
abbrev pub class_text : Class → Octets
class_text A = codes "a"
class_text N = codes "n"
class_text An = codes "an"

-- `..` before a length that is the greatest, and none before an exact one
abbrev pub dots_text : Bool → Octets
dots_text true = []
dots_text false = codes ".."

-- a representation, as `an..35`
abbrev pub repr_text : Repr → Octets
repr_text repr = class_text repr.class ++ dots_text repr.exact ++ decimal repr.max

-- a data element: its code and its representation
abbrev pub element_text : ElementDef → Octets
element_text element = line_of (element.code.octets ∷ repr_text element.repr ∷ [])

-- a code of a list
abbrev pub value_text : Octets → Octets
value_text value = line_of (value ∷ [])

-- a code list: its element, and its codes
abbrev pub list_text : CodeList → Octets
list_text list = listed list.element.octets value_text list.values

-- a component of a composite: its code and its status; its representation is that of its element
abbrev pub part_text : PartDef → Octets
part_text part = line_of (part.code.octets ∷ status_text part.must ∷ [])

-- a composite: its code, and its components
abbrev pub composite_text : CompositeDef → Octets
composite_text composite = listed composite.code.octets part_text composite.parts

-- the words of an item of a segment: its code and its status, and in version 2 its greatest number of repetitions
abbrev pub item_words : StoreVersion → Octets → Bool → ℕ → List Octets
item_words First code must reps = code ∷ status_text must ∷ []
item_words Second code must reps = code ∷ status_text must ∷ decimal reps ∷ []

-- an item of a segment
abbrev pub item_text : StoreVersion → ItemDef → Octets
item_text version (Alone part reps) = line_of (item_words version part.code.octets part.must reps)
item_text version (Composite code must reps) = line_of (item_words version code.octets must reps)

-- a segment: its tag, and its items
abbrev pub segment_text : StoreVersion → SegmentDef → Octets
segment_text version segment = listed segment.tag.octets (item_text version) segment.items

-- what a row is called: its tag, or `-` for a group
abbrev pub row_name : Option Tag → Octets
row_name None = codes "-"
row_name (Some tag) = tag.octets

-- a row of a segment table: its depth, what it is called, its status and its greatest count
abbrev pub row_text : TableRow → Octets
row_text row = line_of (decimal row.depth ∷ row_name row.tag ∷ status_text row.must ∷ decimal row.max ∷ [])

-- a message: its name, and the rows of its segment table
abbrev pub message_text : MessageDef → Octets
message_text message = listed message.name row_text message.rows

-- the first line, which says that these octets are a store, and of which version
abbrev pub first_line : StoreVersion → Octets
first_line First = codes "EDIDIR1"
first_line Second = codes "EDIDIR2"

-- octets begin with the first line of a store: `EDIDIR1` and LF, or `EDIDIR2` and LF
abbrev pub begins_as_store : Octets → Bool
begins_as_store octets =
    starts_with nat_eq octets (line_of (first_line First ∷ []))
    || starts_with nat_eq octets (line_of (first_line Second ∷ []))

-- the labels of a directory: version, release and agency
abbrev pub labels_text : Parts → Octets
labels_text parts = line_of (parts.version ∷ parts.release ∷ parts.agency ∷ [])

-- the spelling of a directory in a version: its first line, its labels, and its definitions, kind by kind, but no table
-- of CONTRL
unfoldable pub spelling_of : StoreVersion → Parts → Octets
spelling_of version parts =
    line_of (first_line version ∷ []) ++ labels_text parts
    ++ listed (codes "E") element_text parts.elements ++ listed (codes "L") list_text parts.lists
    ++ listed (codes "C") composite_text parts.composites
    ++ listed (codes "S") (segment_text version) parts.segments
    ++ listed (codes "T") message_text parts.messages

-- the one spelling that is written
abbrev pub store_text : Parts → Octets
store_text parts = spelling_of Second parts

-- the older spelling, which has no numbers of repetitions
abbrev pub old_store_text : Parts → Octets
old_store_text parts = spelling_of First parts

-- the greatest number of repetitions of each item of a segment is 1
abbrev pub HasNoRepetitions : Parts → Type 0
HasNoRepetitions parts =
    list_all (λ segment. list_all (λ item. reps_of item == 1) segment.items) parts.segments ≡ true

-- octets spell a directory: they are what is written of it, or, where it has no repetitions, its older spelling
abbrev pub IsStoreOf : Octets → Parts → Type 0
IsStoreOf octets parts = (octets ≡ store_text parts) ⊎ (HasNoRepetitions parts × (octets ≡ old_store_text parts))

-- a text each of whose counts has at most 19 digits: no text in memory is longer
abbrev pub IsCountable : Octets → Type 0
IsCountable text = length text < 10 ^ 19
