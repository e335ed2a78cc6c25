-- The head of an entry.
use Rattle.std.specs.Prelude.{Bool, false, not, List, [], ◌∷◌, if◌then◌else◌}
use Rattle.std.specs.List.{list_any}
use Rattle.std.specs.Str.{bytes_eq}
use Rattle.edi_tables.specs.Octets.{Octets}
use Rattle.edi_tables.specs.declared.element.Code.{Code}
use Rattle.edi_octets.specs.declared.fault.DirFault.{DirFault}
use Rattle.edi_octets.specs.declared.fault.DirKind.TheVariants.{BadCode, Twice}
use Rattle.edi_octets.specs.Lines.{Line}
use Rattle.edi_octets.specs.Profile.{fields_of, first_field}
use Rattle.edi_octets.specs.DirStop.{at_line}

-- a code and a name: the name is one or more fields
abbrev pub is_code_and_name : (Octets → Bool) → List Octets → Bool
is_code_and_name is_code (code ∷ name ∷ more) = is_code code
is_code_and_name is_code fields = false

-- the first field of an entry's head, which is the entry's first line
abbrev pub head_field : List Line → Octets
head_field [] = []
head_field (head ∷ body) = first_field (fields_of head.octets)

-- the code that an entry's head has, of an element or a composite
abbrev pub code_of : List Line → Code
code_of entry = record { octets = head_field entry }

-- the head is a code and a name, and no earlier entry has the code
abbrev pub head_faults : (Octets → Bool) → List (List Line) → Line → List DirFault
head_faults is_code earlier head =
    if not (is_code_and_name is_code (fields_of head.octets)) then at_line BadCode head ∷ []
    else (if list_any (λ entry. bytes_eq (head_field entry) (first_field (fields_of head.octets))) earlier
    then at_line Twice head ∷ []
    else [])
