-- What is kept of a source's octets.
use Rattle.std.specs.Prelude.{◌≡◌, ◌<◌, ◌≤◌, ◌++◌, ℕ, [], length, take, drop, Option, Some, None, IfSome}
use Rattle.edi_tables.specs.Octets.{Octets}
use Rattle.edi_ports.specs.declared.source.Taken.{Taken}
use Rattle.edi_ports.specs.declared.source.Taken.TheVariants.{Got, End, Failed}
use Rattle.edicheck.specs.declared.kept.TheConstants.{ROOM}
use Rattle.edicheck.specs.declared.kept.Kept.{Kept}

-- the places of what is kept are in order, and inside the room
abbrev pub IsKept : Kept → Type 0
IsKept kept = (kept.from ≤ kept.to) × (kept.to ≤ ROOM)

-- the octets that were taken and not handed out
abbrev pub kept_octets : Kept → Octets
kept_octets kept = drop kept.from (take kept.to kept.octets)

-- these, and then what is left of the source, where it tells that
abbrev pub rest_after : Kept → Option Octets → Option Octets
rest_after kept None = None
rest_after kept (Some rest) = Some (kept_octets kept ++ rest)

-- some octets are kept; or none are, at the end or at a fault of the source; what is kept and left is what it was
abbrev pub IsProvided : Option Octets → Option Octets → Kept → Taken → Type 0
IsProvided before now kept (Got n) = (kept.from < kept.to) × IfSome before (λ rest. now ≡ Some rest)
IsProvided before now kept End = (kept.from ≡ kept.to) × IfSome before (λ rest. (rest ≡ []) × (now ≡ Some rest))
IsProvided before now kept Failed = (kept.from ≡ kept.to) × IfSome before (λ rest. now ≡ Some rest)

-- n octets moved from the front of what was kept to the front of the buffer
abbrev pub IsHanded : Octets → Octets → Octets → ℕ → Type 0
IsHanded before now buffer n = (n ≤ length before) × (take n buffer ≡ take n before) × (now ≡ drop n before)
