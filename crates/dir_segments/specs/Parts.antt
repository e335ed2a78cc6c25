-- The lines of parts and items, in composite and segment files.
use Rattle.std.specs.Prelude.{◌≡◌, ◌-◌, ℕ, Bool, not, ◌==◌, ◌&&◌, ◌||◌, nat_le, nat_lt, List, [], ◌∷◌, length, drop, reverse, slice_get, Option, Some, None, is_some, Result, if◌then◌else◌}
use Rattle.std.specs.Option.{option_or}
use Rattle.edi_tables.specs.Octets.{Octets}
use Rattle.edi_tables.specs.declared.element.Code.{Code}
use Rattle.edi_tables.specs.declared.element.Repr.{Repr}
use Rattle.edi_tables.specs.declared.element.PartDef.{PartDef}
use Rattle.dir_segments.specs.declared.fields.ElementFields.{ElementFields}
use Rattle.edi_octets.specs.declared.fault.DirFault.{DirFault}
use Rattle.edi_octets.specs.declared.fault.DirKind.{DirKind}
use Rattle.edi_octets.specs.declared.fault.DirKind.TheVariants.{BadLine, BadPosition, BadStatus, BadRepr}
use Rattle.edi_octets.specs.declared.fault.DirStop.{DirStop}
use Rattle.edi_tables.specs.First.{IsVerdict, unless_faulty}
use Rattle.edi_octets.specs.DirStop.{at_line, fault_in}
use Rattle.edi_octets.specs.Lines.{Line}
use Rattle.edi_tables.specs.Forms.{is_element_code, is_composite_code}
use Rattle.edi_octets.specs.Profile.{fields_of, indentation_of, first_field, after_position, has_position, position_of, is_greater, repr_in, status_in}

-- a line of a part or an item: indented by at most 4
abbrev pub is_item_line : Line → Bool
is_item_line line = nat_le (indentation_of line.octets) 4

-- the fields after the position of a line, a lone mark skipped
abbrev pub fields_past_position : Line → List Octets
fields_past_position line = after_position (drop 1 (fields_of line.octets))

-- a line of a part or an item begins with a position of three digits
abbrev pub is_placed : Line → Bool
is_placed line = has_position 3 line

-- the last of these positions, if there is one
abbrev pub last_of : List ℕ → Option ℕ
last_of positions = slice_get positions (length positions - 1)

-- the field that many places before the end, from 1
abbrev pub field_from_end : ℕ → List Octets → Octets
field_from_end n fields = first_field (drop (n - 1) (reverse fields))

-- a data element's fields: its code, a name, a status and a representation
abbrev pub is_element_form : List Octets → Bool
is_element_form fields = is_element_code (first_field fields) && nat_le 4 (length fields)

-- a composite's fields: its code, a name and a status
abbrev pub is_composite_form : List Octets → Bool
is_composite_form fields = is_composite_code (first_field fields) && nat_le 3 (length fields)

-- a data element's status is its last field but one, before the representation
abbrev pub element_status : List Octets → Option Bool
element_status fields = status_in (field_from_end 2 fields)

-- a data element's representation is its last field
abbrev pub element_repr : List Octets → Option Repr
element_repr fields = repr_in (field_from_end 1 fields)

-- a composite's status is its last field
abbrev pub composite_status : List Octets → Option Bool
composite_status fields = status_in (field_from_end 1 fields)

-- the part with this code, status and representation, if both of these are good
abbrev pub part_with : Code → Option Bool → Option Repr → Option PartDef
part_with code (Some must) (Some repr) = Some (record { code = code; must = must; repr = repr })
part_with code (Some must) None = None
part_with code None repr = None

-- the part that a data element's fields define, if its status and representation are good
abbrev pub part_in : List Octets → Option PartDef
part_in fields =
    if is_element_form fields
    then part_with (record { octets = first_field fields }) (element_status fields) (element_repr fields)
    else None

-- what a line with this status breaks by its position, after the position before it, and by its status
abbrev pub status_fault : Option ℕ → Line → Option Bool → Option DirKind
status_fault before line status =
    if not (is_greater before (position_of line)) then Some BadPosition
    else (if not (is_some status) then Some BadStatus else None)

-- what a line with this status and representation breaks, after the position before it
abbrev pub element_fault : Option ℕ → Line → Option Bool → Option Repr → Option DirKind
element_fault before line status repr =
    option_or (status_fault before line status) (if not (is_some repr) then Some BadRepr else None)

-- an entry has 1 to 99 parts or items; this is judged where it ends
abbrev pub count_faults : Line → ℕ → List DirFault
count_faults head count = if count == 0 || nat_lt 99 count then at_line BadLine head ∷ [] else []

-- at most one fault, at its line
abbrev pub fault_list : Line → Option DirKind → List DirFault
fault_list line None = []
fault_list line (Some kind) = record { line = line.number; kind = kind } ∷ []

-- a part line after the position before: a position, an element code, a name, a status and a representation
abbrev pub part_faults : Option ℕ → Line → List DirFault
part_faults before line =
    let fields = fields_past_position line in
    fault_list line
    (if not (is_placed line && is_element_form fields) then Some BadLine
    else element_fault before line (element_status fields) (element_repr fields))

-- what was read of a data element's fields: the code, and the status and the representation where they are good
pub record IsElement (element : ElementFields) (fields : List Octets) : Type 0 where
  pub code : element.code.octets ≡ first_field fields
  pub must : element.must ≡ element_status fields
  pub repr : element.repr ≡ element_repr fields

-- what was read of a line: its position and what it defines where no rule is broken, else the first fault, unless
-- memory ran out
abbrev pub GivesPlaced : {A : Type 0} → Result (ℕ × A) DirStop → List DirFault → ℕ → Option A → Type 0
GivesPlaced {A} result faults position found =
    IsVerdict {Y = ℕ × Option A} (λ p. (p.0, Some p.1)) fault_in result
    (unless_faulty {A = ℕ × Option A} faults (position, found))

-- what was answered: nothing where no rule is broken, else the first fault, unless memory ran out
abbrev pub Passes : {A : Type 0} → Result A DirStop → List DirFault → Type 0
Passes result faults = IsVerdict {Y = Unit {0}} (λ _. tt) fault_in result (unless_faulty faults tt)
