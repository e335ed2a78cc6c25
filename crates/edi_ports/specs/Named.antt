-- What is read under a name.
use Rattle.std.specs.Prelude.{ℕ, nat_lt, List, length, Option, Some, None, Result, Ok, Err, if◌then◌else◌}
use Rattle.edi_tables.specs.Octets.{Octets}
use Rattle.edi_ports.specs.declared.shelf.ShelfFile.{ShelfFile}
use Rattle.edi_ports.specs.declared.named.Unread.{Unread}
use Rattle.edi_ports.specs.declared.named.Unread.TheVariants.{Absent, TooLarge}
use Rattle.edi_ports.specs.declared.named.NamedStop.{NamedStop}
use Rattle.edi_ports.specs.declared.named.NamedStop.TheVariants as named
use Rattle.edi_ports.specs.declared.read.ReadStop.{ReadStop}
use Rattle.edi_ports.specs.declared.read.ReadStop.TheVariants as read
use Rattle.edi_ports.specs.Shelf.{file_named}

-- all octets of a file: absent where there is none, too large where it has more than the limit
abbrev pub octets_within : ℕ → Option Octets → Result Octets Unread
octets_within limit None = Err Absent
octets_within limit (Some octets) = if nat_lt limit (length octets) then Err TooLarge else Ok octets

-- all octets of the first file of that name
abbrev pub octets_named : ℕ → List ShelfFile → Octets → Result Octets Unread
octets_named limit files name = octets_within limit (file_named name files)

-- why the files give no octets, where a stop tells that
abbrev pub unread_in : NamedStop → Option Unread
unread_in (named.Unread unread) = Some unread
unread_in named.Fault = None
unread_in named.Memory = None

-- a stop of reading, as a stop of reading by name
abbrev pub named_stop_of : ReadStop → NamedStop
named_stop_of read.TooLong = named.Unread TooLarge
named_stop_of read.Fault = named.Fault
named_stop_of read.Memory = named.Memory
