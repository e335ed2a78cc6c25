-- What a segment tag is.
use Rattle.std.specs.Prelude.{ℕ, Bool, false, ◌&&◌, ◌||◌, nat_le, [], ◌∷◌}
use Rattle.edi_tables.specs.Octets.{Octets}

-- a capital letter, `A` to `Z`
abbrev pub is_capital : ℕ → Bool
is_capital x = nat_le 65 x && nat_le x 90

-- a digit, `0` to `9`
abbrev pub is_digit : ℕ → Bool
is_digit x = nat_le 48 x && nat_le x 57

-- an octet of a tag: a capital letter or a digit
abbrev pub is_tag_octet_of : ℕ → Bool
is_tag_octet_of x = is_capital x || is_digit x

-- a tag is three octets of `A` to `Z` and `0` to `9`, the first a letter
abbrev pub is_tag_of : Octets → Bool
is_tag_of (a ∷ b ∷ c ∷ []) = is_capital a && is_tag_octet_of b && is_tag_octet_of c
is_tag_of octets = false
