-- For bodies and their invariants: octets as one number.
use Rattle.std.specs.Prelude.{◌+◌, ◌*◌, ℕ, [], ◌∷◌}
use Rattle.edi_tables.specs.Octets.{Octets}

-- octets as one number, the first octet lowest; other octets have another number
abbrev pub number : Octets → ℕ
number [] = 1
number (x ∷ xs) = 256 * number xs + x
