-- What the files of a shelf give under the name of a manifest.
use Rattle.std.specs.Prelude.{List, [], ◌∷◌, Result, Ok, Err, if◌then◌else◌}
use Rattle.std.specs.List.{flat_map}
use Rattle.std.specs.Result.{result_map_both, result_unwrap_or}
use Rattle.edi_tables.specs.Octets.{Octets}
use Rattle.edi_tables.specs.First.{unless_faulty}
use Rattle.edi_tables.specs.declared.element.ElementDef.{ElementDef}
use Rattle.edi_tables.specs.declared.element.CodeList.{CodeList}
use Rattle.edi_tables.specs.declared.element.CompositeDef.{CompositeDef}
use Rattle.edi_tables.specs.declared.segment.SegmentDef.{SegmentDef}
use Rattle.edi_tables.specs.declared.segment.MessageDef.{MessageDef}
use Rattle.edi_octets.specs.declared.fault.DirFault.{DirFault}
use Rattle.edi_octets.specs.Profile.{with_earlier}
use Rattle.edi_ports.specs.declared.shelf.ShelfFile.{ShelfFile}
use Rattle.edi_ports.specs.Named.{octets_named}
use Rattle.dir_lists.specs.Elements.{elements_in}
use Rattle.dir_lists.specs.Codes.{codes_in}
use Rattle.dir_segments.specs.Composites.{composites_in}
use Rattle.dir_segments.specs.Segments.{segments_in_file}
use Rattle.dir_messages.specs.Message.{message_in}
use Rattle.dir_compile.specs.Directory.{Directory, directory_of}
use Rattle.dir_compile.specs.Stop.{PartsFault}
use Rattle.dir_store.specs.Spelling.{begins_as_store}
use Rattle.dir_store.specs.Store.{store_of}
use Rattle.dir_load.specs.declared.manifest.FileKind.{FileKind}
use Rattle.dir_load.specs.declared.manifest.FileKind.TheVariants.{Elements, Codes, Composites, Segments, Message}
use Rattle.dir_load.specs.declared.manifest.FileLine.{FileLine}
use Rattle.edi_octets.specs.declared.labels.Labels.{Labels}
use Rattle.dir_load.specs.declared.manifest.Manifest.{Manifest}
use Rattle.dir_load.specs.declared.stop.FileFault.{FileFault}
use Rattle.dir_load.specs.declared.stop.FileFault.TheVariants.{Unread, Grammar}
use Rattle.dir_load.specs.declared.stop.Refusal.{Refusal}
use Rattle.dir_load.specs.declared.stop.Refusal.TheVariants as refusal
use Rattle.dir_load.specs.Manifest.{manifest_in}
use Rattle.edi_octets.specs.declared.octets.TheConstants.{LONGEST_TEXT}

-- the same result, with its error as another
abbrev pub map_err : {A E D : Type 0} → (E → D) → Result A E → Result A D
map_err as_other result = result_map_both (λ value. value) as_other result

-- the same result, with its value as another
abbrev pub map_ok : {A B E : Type 0} → (A → B) → Result A E → Result B E
map_ok as_other result = result_map_both as_other (λ error. error) result

-- what a value gives next; an error stays
abbrev pub and_then : {A B E : Type 0} → Result A E → (A → Result B E) → Result B E
and_then (Ok value) next = next value
and_then (Err error) next = Err error

-- what the file of that name gives by its grammar; else it is absent, has over 4,194,304 octets or breaks a rule
abbrev pub file_by : {A : Type 0}
    → (Octets → Result A DirFault) → List ShelfFile → Octets → Result A FileFault
file_by grammar files name =
    and_then (map_err Unread (octets_named LONGEST_TEXT files name)) (λ octets. map_err Grammar (grammar octets))

-- definitions, by kind
pub record Found : Type 0 where
  pub elements : List ElementDef
  pub lists : List CodeList
  pub composites : List CompositeDef
  pub segments : List SegmentDef
  pub messages : List MessageDef

-- no definitions of any kind
abbrev pub nothing : Found
nothing = record { elements = []; lists = []; composites = []; segments = []; messages = [] }

-- what a file of this kind defines; a segment file is read with known composites
abbrev pub found_by : FileKind → List CompositeDef → Octets → Result Found DirFault
found_by Elements known octets = map_ok (λ found. record nothing { elements = found }) (elements_in octets)
found_by Codes known octets = map_ok (λ found. record nothing { lists = found }) (codes_in octets)
found_by Composites known octets = map_ok (λ found. record nothing { composites = found }) (composites_in octets)
found_by Segments known octets = map_ok (λ found. record nothing { segments = found }) (segments_in_file known octets)
found_by Message known octets = map_ok (λ found. record nothing { messages = found ∷ [] }) (message_in octets)

-- what the file of a line gives, where these composites are known
abbrev pub found_in_file : List ShelfFile → List CompositeDef → FileLine → Result Found FileFault
found_in_file files known line = file_by (found_by line.kind known) files line.name

-- the composites of the files of these lines
abbrev pub composites_of : List ShelfFile → List FileLine → List CompositeDef
composites_of files lines = flat_map (λ line. (result_unwrap_or (found_in_file files [] line) nothing).composites) lines

-- what the file of a line gives after these lines: the composites of all files before it are known
abbrev pub file_after : List ShelfFile → List FileLine → FileLine → Result Found FileFault
file_after files earlier line = found_in_file files (composites_of files earlier) line

-- the definitions of one kind in the files of these lines, in their order
abbrev pub members_of : {A : Type 0} → (Found → List A) → List ShelfFile → List FileLine → List A
members_of kind files lines =
    flat_map (λ p. kind (result_unwrap_or (file_after files p.0 p.1) nothing)) (with_earlier lines)

-- all that the files of these lines define
abbrev pub found_on : List ShelfFile → List FileLine → Found
found_on files lines = record {
  elements = members_of (λ found. found.elements) files lines;
  lists = members_of (λ found. found.lists) files lines;
  composites = members_of (λ found. found.composites) files lines;
  segments = members_of (λ found. found.segments) files lines;
  messages = members_of (λ found. found.messages) files lines;
}

-- the refusal of a file that gives nothing
abbrev pub refusals_in : Octets → Result Found FileFault → List Refusal
refusals_in name (Ok found) = []
refusals_in name (Err fault) = refusal.File name fault ∷ []

-- the refusals of all files of these lines, in their order
abbrev pub refusals_of : List ShelfFile → List FileLine → List Refusal
refusals_of files lines = flat_map (λ p. refusals_in p.1.name (file_after files p.0 p.1)) (with_earlier lines)

-- the parts of a directory: its labels and its definitions
abbrev pub parts_with : Labels → Found → Directory
parts_with labels found = record {
  version = labels.version;
  release = labels.release;
  agency = labels.agency;
  elements = found.elements;
  lists = found.lists;
  composites = found.composites;
  segments = found.segments;
  messages = found.messages;
}

-- the refusal of parts, for the rule that they break and the name that it is about
abbrev pub parts_refusal : PartsFault → Refusal
parts_refusal fault = refusal.Parts fault.kind fault.name

-- the directory of a manifest: its files are judged in order, and then their parts
abbrev pub load_with : List ShelfFile → Manifest → Result Directory Refusal
load_with files manifest =
    and_then (unless_faulty (refusals_of files manifest.files) (found_on files manifest.files))
    (λ found. map_err parts_refusal (directory_of (parts_with manifest.labels found)))

-- the directory of a manifest of lines, the octets of the file of that name: the whole manifest is judged before any
-- file that it names
abbrev pub lines_under : List ShelfFile → Octets → Octets → Result Directory Refusal
lines_under files name octets =
    and_then (map_err (λ fault. refusal.File name (Grammar fault)) (manifest_in octets)) (load_with files)

-- the directory of a store, the octets of the file of that name
abbrev pub store_under : Octets → Octets → Result Directory Refusal
store_under name octets = map_err (refusal.Store name) (store_of octets)

-- the directory of a manifest, the octets of the file of that name: one that begins with the first line of a store is a
-- store, and every other one is lines
abbrev pub octets_under : List ShelfFile → Octets → Octets → Result Directory Refusal
octets_under files name octets =
    if begins_as_store octets then store_under name octets else lines_under files name octets

-- what files give under the name of a manifest: it is absent, has over 4,194,304 octets, or is a store or lines
unfoldable pub load_of : List ShelfFile → Octets → Result Directory Refusal
load_of files name =
    and_then (map_err (λ why. refusal.File name (Unread why)) (octets_named LONGEST_TEXT files name))
    (octets_under files name)
