-- What an opening does.
use Rattle.std.specs.Prelude.{◌≡◌, ℕ, Bool, true, false, List, [], ◌∷◌, Option, Some, None, IfSome, if◌then◌else◌}
use Rattle.std.specs.Str.{bytes_eq}
use Rattle.edi_tables.specs.Octets.{Octets}
use Rattle.edi_ports.specs.declared.shelf.Opened.{Opened}
use Rattle.edi_ports.specs.declared.shelf.Opened.TheVariants.{Open, Absent, Failed}
use Rattle.edi_ports.specs.declared.shelf.ShelfFile.{ShelfFile}
use Rattle.edi_ports.specs.Faults.{one_more}

-- the octets of the first file of that name, if there is one
abbrev pub file_named : Octets → List ShelfFile → Option Octets
file_named name [] = None
file_named name (file ∷ files) = if bytes_eq file.name name then Some file.octets else file_named name files

-- the whole of the named file is the rest; or there is no such file; a fault tells nothing of the files
abbrev pub IsOpening : Option (List ShelfFile) → Octets → Option Octets → Opened → Type 0
IsOpening files name rest Open =
    IfSome files (λ files. (octets : Octets) × (file_named name files ≡ Some octets) × (rest ≡ Some octets))
IsOpening files name rest Absent = IfSome files (λ files. file_named name files ≡ None)
IsOpening files name rest Failed = Unit {0}

-- whether the opening gave a file
abbrev pub is_opened : Opened → Bool
is_opened Open = true
is_opened Absent = false
is_opened Failed = false

-- a count of faults after an opening: one more where it failed
abbrev pub count_after_opening : ℕ → Opened → ℕ
count_after_opening faults Open = faults
count_after_opening faults Absent = faults
count_after_opening faults Failed = one_more faults

-- the opening failed
abbrev pub IsFailedOpening : Opened → Type 0
IsFailedOpening opened = opened ≡ Failed
