-- Places in the files of a shelf in memory.
use Rattle.std.specs.Prelude.{◌≤◌, ◌<◌, ℕ, List, [], length, drop, slice_get, Option, Some, None}
use Rattle.std.specs.Option.{ForSome, option_map_or}
use Rattle.edi_tables.specs.Octets.{Octets}
use Rattle.edi_ports.specs.declared.shelf.ShelfFile.{ShelfFile}
use Rattle.edi_ports.specs.declared.memory.shelf.OpenFile.{OpenFile}

-- the octets of the file at i
abbrev pub octets_at : List ShelfFile → ℕ → Octets
octets_at files i = option_map_or (λ file. file.octets) (slice_get files i) []

-- a place is inside its file
abbrev pub IsPlaced : List ShelfFile → Option OpenFile → Type 0
IsPlaced files place = ForSome place (λ p. (p.file < length files) × (p.from ≤ length (octets_at files p.file)))

-- the octets from a place on
abbrev pub rest_from : List ShelfFile → Option OpenFile → Octets
rest_from files None = []
rest_from files (Some place) = drop place.from (octets_at files place.file)
