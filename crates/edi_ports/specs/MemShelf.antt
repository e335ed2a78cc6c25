-- What a shelf in memory opens and gives.
use Rattle.std.specs.Prelude.{◌≡◌, ◌==◌, ℕ, Bool, List, [], length, min, is_some, if◌then◌else◌, Vec}
use Rattle.std.specs.declared.alloc.Global.{Global}
use Rattle.edi_tables.specs.Octets.{Octets}
use Rattle.edi_ports.specs.declared.source.Taken.{Taken}
use Rattle.edi_ports.specs.declared.source.Taken.TheVariants as taken
use Rattle.edi_ports.specs.declared.shelf.ShelfFile.{ShelfFile}
use Rattle.edi_ports.specs.declared.shelf.Opened.{Opened}
use Rattle.edi_ports.specs.declared.shelf.Opened.TheVariants.{Open, Absent, Failed}
use Rattle.edi_ports.specs.declared.memory.shelf.MemShelf.{MemShelf}
use Rattle.edi_ports.specs.Memory.{first_calls, fails_next, after_call}
use Rattle.edi_ports.specs.Shelf.{file_named}
use Rattle.edi_ports.specs.Place.{rest_from}

-- its files
abbrev pub files_of : MemShelf → List ShelfFile
files_of shelf = shelf.files.items

-- the octets that are left of the open file; none where no file is open
abbrev pub rest_of : MemShelf → Octets
rest_of shelf = rest_from shelf.files.items shelf.place

-- whether a file is open
abbrev pub is_open_of : MemShelf → Bool
is_open_of shelf = is_some shelf.place

-- how often it failed
abbrev pub faults_of : MemShelf → ℕ
faults_of shelf = shelf.calls.faults

-- no call of it is to fail
abbrev pub IsSteady : MemShelf → Type 0
IsSteady shelf = shelf.calls.failing.items ≡ []

-- the next opening: a fault where it is to fail, else whether there is a file of that name
abbrev pub opened_next : MemShelf → Octets → Opened
opened_next shelf name =
    if fails_next shelf.calls then Failed else (if is_some (file_named name (files_of shelf)) then Open else Absent)

-- the next take with a buffer of this size
abbrev pub taken_next : MemShelf → ℕ → Taken
taken_next shelf size =
    if fails_next shelf.calls then taken.Failed
    else (if length (rest_of shelf) == 0 then taken.End
    else taken.Got (min (min (length (rest_of shelf)) shelf.most) size))

-- one more call is counted, and the most that a call gives stays
abbrev pub IsNextCall : MemShelf → MemShelf → Type 0
IsNextCall before now = (now.calls ≡ after_call before.calls) × (now.most ≡ before.most)

-- before its first call: at most so many octets a call, and these calls are to fail
abbrev pub IsMade : ℕ → Vec ℕ Global → MemShelf → Type 0
IsMade most failing shelf = (shelf.most ≡ most) × (shelf.calls ≡ first_calls failing)
