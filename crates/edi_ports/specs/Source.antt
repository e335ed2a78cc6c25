-- What a take does to a told rest.
use Rattle.std.specs.Prelude.{◌≡◌, ◌<◌, ◌≤◌, ℕ, [], length, take, drop, Option, Some, IfSome}
use Rattle.edi_tables.specs.Octets.{Octets}
use Rattle.edi_ports.specs.declared.source.Taken.{Taken}
use Rattle.edi_ports.specs.declared.source.Taken.TheVariants.{Got, End, Failed}
use Rattle.edi_ports.specs.Faults.{one_more}

-- n octets moved from the front of the rest to the front of the buffer, one at least; at the end and at a fault the
-- rest stays
abbrev pub IsTake : Option Octets → Option Octets → Octets → Taken → Type 0
IsTake before now buffer (Got n) =
    (0 < n) × (n ≤ length buffer)
    × IfSome before (λ rest. (n ≤ length rest) × (take n buffer ≡ take n rest) × (now ≡ Some (drop n rest)))
IsTake before now buffer End = IfSome before (λ rest. (rest ≡ []) × (now ≡ Some rest))
IsTake before now buffer Failed = IfSome before (λ rest. now ≡ Some rest)

-- the take failed
abbrev pub IsFailedTake : Taken → Type 0
IsFailedTake taken = taken ≡ Failed

-- a count of faults after a take: one more where it failed
abbrev pub count_after_take : ℕ → Taken → ℕ
count_after_take faults (Got n) = faults
count_after_take faults End = faults
count_after_take faults Failed = one_more faults
