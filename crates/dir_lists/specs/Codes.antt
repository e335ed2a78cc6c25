-- What a code file is.
use Rattle.std.specs.Prelude.{Bool, not, ◌&&◌, ◌||◌, nat_le, List, [], ◌∷◌, ◌++◌, length, Result, filter, map, codes, if◌then◌else◌}
use Rattle.std.specs.List.{list_any, flat_map}
use Rattle.std.specs.Str.{bytes_eq}
use Rattle.edi_tables.specs.Octets.{Octets}
use Rattle.edi_tables.specs.declared.element.CodeList.{CodeList}
use Rattle.edi_octets.specs.declared.fault.DirFault.{DirFault}
use Rattle.edi_octets.specs.declared.fault.DirKind.TheVariants.{BadLine, Twice}
use Rattle.edi_octets.specs.Lines.{Line, lines_of}
use Rattle.edi_tables.specs.Forms.{is_element_code}
use Rattle.edi_octets.specs.Profile.{fields_of, indentation_of, first_field, begins_with_word, entries_of, with_earlier}
use Rattle.edi_tables.specs.First.{unless_faulty}
use Rattle.edi_octets.specs.DirStop.{at_line}
use Rattle.edi_octets.specs.Head.{is_code_and_name, head_faults, code_of}

-- text: a line that begins with `Desc:`, `Repr:` or `Note:`, or is indented by 10 or more
abbrev pub is_text : Line → Bool
is_text line =
    let fields = fields_of line.octets in
    begins_with_word (codes "Desc:") fields || begins_with_word (codes "Repr:") fields
    || begins_with_word (codes "Note:") fields || nat_le 10 (indentation_of line.octets)

-- a code of 1 to 35 octets
abbrev pub is_value : Octets → Bool
is_value field = nat_le 1 (length field) && nat_le (length field) 35

-- a line of a code: indented by 1 to 7, a code and a name
abbrev pub is_value_line : Line → Bool
is_value_line line =
    not (is_text line) && nat_le 1 (indentation_of line.octets) && nat_le (indentation_of line.octets) 7
    && is_code_and_name is_value (fields_of line.octets)

-- the code of a line
abbrev pub value_of : Line → Octets
value_of line = first_field (fields_of line.octets)

-- the codes of these lines, in order
abbrev pub values_of : List Line → List Octets
values_of lines = map value_of (filter is_value_line lines)

-- a line of an entry after these: text, or a code that the entry hasn't yet
abbrev pub body_faults : List Line → Line → List DirFault
body_faults earlier line =
    if is_text line then []
    else (if not (is_value_line line) then at_line BadLine line ∷ []
    else (if list_any (bytes_eq (value_of line)) (values_of earlier) then at_line Twice line ∷ [] else []))

-- an entry after these: its head, and its lines in order
abbrev pub list_faults : List (List Line) → List Line → List DirFault
list_faults earlier [] = []
list_faults earlier (head ∷ body) =
    head_faults is_element_code earlier head ++ flat_map (λ p. body_faults p.0 p.1) (with_earlier body)

-- the code list of an entry: an entry without a code is an empty list
abbrev pub list_of : List Line → CodeList
list_of [] = record { element = code_of []; values = [] }
list_of (head ∷ body) = record { element = code_of (head ∷ body); values = values_of body }

-- what a code file gives: a code list for each entry, or its first fault
unfoldable pub codes_in : Octets → Result (List CodeList) DirFault
codes_in file =
    let entries = entries_of (lines_of file) in
    unless_faulty (flat_map (λ p. list_faults p.0 p.1) (with_earlier entries)) (map list_of entries)
