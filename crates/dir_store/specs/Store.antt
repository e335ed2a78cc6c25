-- What octets give as a store.
use Rattle.std.specs.Prelude.{◌-◌, ℕ, List, [], length, Option, Some, None, Result, Ok, Err, codes, if◌then◌else◌}
use Rattle.std.specs.Result.{result_map_both}
use Rattle.std.specs.Str.{bytes_eq}
use Rattle.edi_tables.specs.Octets.{Octets}
use Rattle.edi_tables.specs.declared.element.ElementDef.{ElementDef}
use Rattle.edi_tables.specs.declared.element.CodeList.{CodeList}
use Rattle.edi_tables.specs.declared.element.CompositeDef.{CompositeDef}
use Rattle.edi_tables.specs.declared.element.PartDef.{PartDef}
use Rattle.edi_tables.specs.declared.segment.ItemDef.{ItemDef}
use Rattle.edi_tables.specs.declared.segment.SegmentDef.{SegmentDef}
use Rattle.edi_tables.specs.declared.segment.TableRow.{TableRow}
use Rattle.edi_tables.specs.declared.segment.MessageDef.{MessageDef}
use Rattle.edi_tables.specs.Rows.{table_faults}
use Rattle.dir_compile.specs.declared.parts.Parts.{Parts}
use Rattle.edi_tables.specs.Filled.{is_filled}
use Rattle.dir_store.specs.declared.version.StoreVersion.{StoreVersion}
use Rattle.dir_store.specs.declared.version.StoreVersion.TheVariants.{First, Second}
use Rattle.dir_store.specs.Spelling.{first_line}
use Rattle.edi_octets.specs.declared.labels.Labels.{Labels}
use Rattle.dir_store.specs.Lines.{◌>>=◌, LineRead, found_at, lined, several}
use Rattle.dir_store.specs.Rules.{labels_in, section_in, element_in, list_in, value_in, composite_in, part_in, segment_in, item_in, message_in, row_in}

-- the first line names the version: it is `EDIDIR1` or `EDIDIR2`
abbrev pub first_in : Octets → Option StoreVersion
first_in line =
    if bytes_eq line (first_line First) then Some First
    else (if bytes_eq line (first_line Second) then Some Second else None)

-- what a head that keeps a rule and the members after it make; where they make nothing, the fault is at the head
abbrev pub headed : {A B : Type 0}
    → (Octets → Option (Octets × ℕ)) → (Option A → Octets → LineRead A) → (Octets → List A → Option B)
    → Octets → LineRead B
headed rule member made octets =
    lined rule octets >>= λ head. several head.0.1 member [] head.1
    >>= λ members. found_at octets (made head.0.0 members.0) members.1

-- a data element, which is one line
unfoldable pub element_at : Option ElementDef → Octets → LineRead ElementDef
element_at before octets = lined (element_in before) octets

-- a code of a list, which is one line
unfoldable pub value_at : Option Octets → Octets → LineRead Octets
value_at before octets = lined (value_in before) octets

-- the code list of the data element with this code, and of these codes
abbrev pub list_of : Octets → List Octets → Option CodeList
list_of name values = Some (record { element = record { octets = name }; values = values })

-- a code list: a line of its data element, and then its codes
unfoldable pub list_at : List ElementDef → Option CodeList → Octets → LineRead CodeList
list_at elements before octets = headed (list_in elements before) value_at list_of octets

-- a part of a composite, which is one line
unfoldable pub part_at : List ElementDef → Option PartDef → Octets → LineRead PartDef
part_at elements before octets = lined (part_in elements) octets

-- the composite of this code and these parts
abbrev pub composite_of : Octets → List PartDef → Option CompositeDef
composite_of name parts = Some (record { code = record { octets = name }; parts = parts })

-- a composite: a line of its code, and then its parts
unfoldable pub composite_at : List ElementDef → Option CompositeDef → Octets → LineRead CompositeDef
composite_at elements before octets = headed (composite_in before) (part_at elements) composite_of octets

-- an item of a segment, which is one line
unfoldable pub item_at : StoreVersion
    → List ElementDef → List CompositeDef → Option ItemDef → Octets → LineRead ItemDef
item_at version elements composites before octets = lined (item_in version elements composites) octets

-- the segment of this tag and these items
abbrev pub segment_of : Octets → List ItemDef → Option SegmentDef
segment_of name items = Some (record { tag = record { octets = name }; items = items })

-- a segment: a line of its tag, and then its items
unfoldable pub segment_at : StoreVersion
    → List ElementDef → List CompositeDef → Option SegmentDef → Octets → LineRead SegmentDef
segment_at version elements composites before octets =
    headed (segment_in before) (item_at version elements composites) segment_of octets

-- a row of a message, which is one line
unfoldable pub row_at : List SegmentDef → Option TableRow → Octets → LineRead TableRow
row_at segments before octets = lined (row_in segments) octets

-- the rows of a message are a segment table: it is judged after its last row, and its fault is at the name's line
abbrev pub message_of : Octets → List TableRow → Option MessageDef
message_of name rows = if is_filled (table_faults rows) then None else Some (record { name = name; rows = rows })

-- a message: a line of its name, and then its rows
unfoldable pub message_at : List SegmentDef → Option MessageDef → Octets → LineRead MessageDef
message_at segments before octets = headed (message_in before) (row_at segments) message_of octets

-- a section gives its members, whatever its letter
abbrev pub section_of : {A : Type 0} → Octets → List A → Option (List A)
section_of letter members = Some members

-- the definitions of a kind: a line of its letter, and then the definitions
unfoldable pub section_at : {A : Type 0} → Octets → (Option A → Octets → LineRead A) → Octets → LineRead (List A)
section_at letter member octets = headed (section_in letter) member section_of octets

-- nothing follows
abbrev pub ended : Octets → Result (Unit {0}) ℕ
ended [] = Ok tt
ended octets = Err (length octets)

-- the sections of a store of this version in order, after its labels
unfoldable pub definitions_at : StoreVersion → Labels → Octets → Result Parts ℕ
definitions_at version labels octets = do
  elements ← section_at (codes "E") element_at octets
  lists ← section_at (codes "L") (list_at elements.0) elements.1
  composites ← section_at (codes "C") (composite_at elements.0) lists.1
  segments ← section_at (codes "S") (segment_at version elements.0 composites.0) composites.1
  messages ← section_at (codes "T") (message_at segments.0) segments.1
  end ← ended messages.1
  Ok (record {
    version = labels.version;
    release = labels.release;
    agency = labels.agency;
    elements = elements.0;
    lists = lists.0;
    composites = composites.0;
    segments = segments.0;
    messages = messages.0;
  })

-- the lines of a store in order
unfoldable pub parts_at : Octets → Result Parts ℕ
parts_at octets = do
  version ← lined first_in octets
  labels ← lined labels_in version.1
  definitions_at version.0 labels.0 labels.1

-- octets give a directory, or the place of the first line that breaks a rule: of the first octet after the last line
-- where some follow it, and of the octets' end where they end before LF ends the last line
unfoldable pub store_of : Octets → Result Parts ℕ
store_of octets = result_map_both (λ parts. parts) (λ left. length octets - left) (parts_at octets)
