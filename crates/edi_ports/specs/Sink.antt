-- What a put does to told octets.
use Rattle.std.specs.Prelude.{◌≡◌, ◌<◌, ◌≤◌, ◌-◌, ◌++◌, ℕ, length, take, drop, Option, Some, IfSome}
use Rattle.edi_tables.specs.Octets.{Octets}
use Rattle.edi_ports.specs.declared.sink.Put.{Put}
use Rattle.edi_ports.specs.declared.sink.Put.TheVariants.{Took, Failed}
use Rattle.edi_ports.specs.Faults.{one_more}

-- the first n octets of the part were appended; at a fault nothing was
abbrev pub IsPut : Option Octets → Option Octets → Octets → Put → Type 0
IsPut before now part (Took n) =
    (0 < n) × (n ≤ length part) × IfSome before (λ held. now ≡ Some (held ++ take n part))
IsPut before now part Failed = IfSome before (λ held. now ≡ Some held)

-- the put failed
abbrev pub IsFailedPut : Put → Type 0
IsFailedPut put = put ≡ Failed

-- a count of faults after a put: one more where it failed
abbrev pub count_after_put : ℕ → Put → ℕ
count_after_put faults (Took n) = faults
count_after_put faults Failed = one_more faults

-- of the room for n octets so much is left; a put with room doesn't fail
abbrev pub KeepsRoom : (ℕ → Type 0) → ℕ → Put → Type 0
KeepsRoom has_room n (Took k) = has_room (n - k)
KeepsRoom has_room n Failed = ⊥

-- a proper prefix of the part was appended
abbrev pub IsCut : Option Octets → Option Octets → Octets → Type 0
IsCut before now part = IfSome before (λ held. (n : ℕ) × (n < length part) × (now ≡ Some (held ++ take n part)))

-- so much of the part is appended, and that is left of it
pub record HasPut (whole held : Option Octets) (part left : Octets) : Type 0 where
  pub shorter : length left ≤ length part
  pub suffix : left ≡ drop (length part - length left) part
  pub told : IfSome whole (λ before. held ≡ Some (before ++ take (length part - length left) part))

-- a writer took these octets from the front of the part; at a fault it took so many as it took
abbrev pub IsWritten : Option Octets → Option Octets → Octets → Put → Type 0
IsWritten before now part (Took n) = IfSome before (λ held. now ≡ Some (held ++ take n part))
IsWritten before now part Failed =
    IfSome before (λ held. (n : ℕ) × (n ≤ length part) × (now ≡ Some (held ++ take n part)))
