-- What an element file is.
use Rattle.std.specs.Prelude.{Bool, not, List, [], ◌∷◌, ◌++◌, Option, Some, None, is_some, Result, codes, if◌then◌else◌}
use Rattle.std.specs.List.{list_any, filter_map, flat_map}
use Rattle.edi_tables.specs.Octets.{Octets}
use Rattle.edi_tables.specs.declared.element.Repr.{Repr}
use Rattle.edi_tables.specs.declared.element.ElementDef.{ElementDef}
use Rattle.edi_octets.specs.declared.fault.DirFault.{DirFault}
use Rattle.edi_octets.specs.declared.fault.DirKind.TheVariants.{BadLine, BadRepr, NoRepr}
use Rattle.edi_octets.specs.Lines.{Line, lines_of}
use Rattle.edi_tables.specs.Forms.{is_element_code}
use Rattle.edi_octets.specs.Profile.{fields_of, begins_with_word, entries_of, repr_in, with_earlier}
use Rattle.edi_tables.specs.First.{unless_faulty}
use Rattle.edi_octets.specs.DirStop.{at_line}
use Rattle.edi_octets.specs.Head.{head_faults, code_of}

-- a line whose first field is `Repr:`
abbrev pub is_repr_line : Line → Bool
is_repr_line line = begins_with_word (codes "Repr:") (fields_of line.octets)

-- the representation after the word `Repr:`, which exactly one field follows
abbrev pub repr_after_word : List Octets → Option Repr
repr_after_word (word ∷ field ∷ []) = repr_in field
repr_after_word fields = None

-- the representation on a `Repr:` line, if there is one
abbrev pub repr_of_line : Line → Option Repr
repr_of_line line = repr_after_word (fields_of line.octets)

-- a line of an entry after these: a second `Repr:` line, or one without a representation; all other lines are text
abbrev pub body_faults : List Line → Line → List DirFault
body_faults earlier line =
    if not (is_repr_line line) then []
    else (if list_any is_repr_line earlier then at_line BadLine line ∷ []
    else (if is_some (repr_of_line line) then [] else at_line BadRepr line ∷ []))

-- an entry has a `Repr:` line; this is judged where it ends
abbrev pub end_faults : Line → List Line → List DirFault
end_faults head body = if list_any is_repr_line body then [] else at_line NoRepr head ∷ []

-- an entry after these: its head, its lines in order, its end
abbrev pub element_faults : List (List Line) → List Line → List DirFault
element_faults earlier [] = []
element_faults earlier (head ∷ body) =
    head_faults is_element_code earlier head
    ++ flat_map (λ p. body_faults p.0 p.1) (with_earlier body) ++ end_faults head body

-- the data element of an entry with this representation
abbrev pub element_with : List Line → Option Repr → Option ElementDef
element_with entry None = None
element_with entry (Some repr) = Some (record { code = code_of entry; repr = repr })

-- the representation on the first `Repr:` line of these lines
abbrev pub repr_of_entry : List Line → Option Repr
repr_of_entry [] = None
repr_of_entry (line ∷ lines) = if is_repr_line line then repr_of_line line else repr_of_entry lines

-- the data element of an entry: the code on its head, and the representation on the lines after it
abbrev pub element_of : List Line → Option ElementDef
element_of [] = None
element_of (head ∷ body) = element_with (head ∷ body) (repr_of_entry body)

-- what an element file gives: a data element for each entry, or its first fault
unfoldable pub elements_in : Octets → Result (List ElementDef) DirFault
elements_in file =
    let entries = entries_of (lines_of file) in
    unless_faulty (flat_map (λ p. element_faults p.0 p.1) (with_earlier entries)) (filter_map element_of entries)
