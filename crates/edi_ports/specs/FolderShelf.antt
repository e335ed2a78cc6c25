-- What a shelf over a folder holds of the file that is open.
use Rattle.std.specs.Prelude.{Bool, true, false, [], Option, Some, None}
use Rattle.edi_tables.specs.Octets.{Octets}
use Rattle.edi_ports.specs.declared.adapters.shelf.Held.{Held}
use Rattle.edi_ports.specs.declared.adapters.shelf.Held.TheVariants.{Nothing, File, Ended}

-- the octets that are left of the open file, by what the file tells; after its end there are none
abbrev pub rest_in : {F : Type 0} → (F → Option Octets) → Held F → Option Octets
rest_in remaining Nothing = None
rest_in remaining (File file) = remaining file
rest_in remaining Ended = Some []

-- a file is open, be it read to its end or not
abbrev pub is_open_in : {F : Type 0} → Held F → Bool
is_open_in Nothing = false
is_open_in (File file) = true
is_open_in Ended = true
