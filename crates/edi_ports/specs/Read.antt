-- What reading to the end gives.
use Rattle.std.specs.Prelude.{◌≡◌, ◌<◌, ◌≤◌, ◌+◌, ◌++◌, ℕ, [], length, take, drop, Option, Some, IfSome, Result, Ok, Err, Vec}
use Rattle.std.specs.declared.alloc.Global.{Global}
use Rattle.edi_tables.specs.Octets.{Octets}
use Rattle.edi_ports.specs.declared.read.ReadStop.{ReadStop}
use Rattle.edi_ports.specs.declared.read.ReadStop.TheVariants.{Fault, TooLong, Memory}

-- so many octets were taken from the front of the rest, a number that P holds of
abbrev pub TakesFront : Option Octets → Option Octets → (ℕ → Type 0) → Type 0
TakesFront before now P = IfSome before (λ rest. (n : ℕ) × (n ≤ length rest) × (now ≡ Some (drop n rest)) × P n)

-- the whole rest, within the limit; too long is more than the limit; at another stop the limit wasn't passed
abbrev pub IsReadAll : Option Octets → Option Octets → ℕ → Result (Vec ℕ Global) ReadStop → Type 0
IsReadAll before now limit (Ok read) =
    (length read.items ≤ limit) × IfSome before (λ rest. (read.items ≡ rest) × (now ≡ Some []))
IsReadAll before now limit (Err TooLong) = TakesFront before now (λ n. limit < n)
IsReadAll before now limit (Err Fault) = TakesFront before now (λ n. n ≤ limit)
IsReadAll before now limit (Err Memory) = TakesFront before now (λ n. n ≤ limit)

-- the part follows what was there; too long where it would pass the limit; else memory ran out, and nothing changed
abbrev pub IsGathering : Octets → Octets → Octets → ℕ → Result Unit ReadStop → Type 0
IsGathering before now part limit (Ok done) = (now ≡ before ++ part) × (length before + length part ≤ limit)
IsGathering before now part limit (Err TooLong) = limit < length before + length part
IsGathering before now part limit (Err Memory) = length before + length part ≤ limit
IsGathering before now part limit (Err Fault) = ⊥

-- these octets were taken from the front of the rest, and those are left
abbrev pub HasTaken : Option Octets → Octets → Option Octets → Type 0
HasTaken whole taken left =
    IfSome whole (λ rest. (length taken ≤ length rest) × (taken ≡ take (length taken) rest)
    × (left ≡ Some (drop (length taken) rest)))
