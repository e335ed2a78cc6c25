-- Decimal numbers in a text.
use Rattle.std.specs.Prelude.{ℕ, ◌≡◌, ◌<◌, ◌+◌, ◌*◌, ◌/◌, ◌^◌, ◌&&◌, nat_le, [], ◌∷◌, ◌++◌, length, replicate, Option, Some, None, codes, decimal, if◌then◌else◌}
use Rattle.std.specs.Str.{all_ascii_digits}
use Rattle.std.specs.Str.Parse.{digits_value}
use Rattle.edi_tables.specs.Octets.{Octets}

-- the number that 1 to 19 digits give; other octets give none
abbrev pub decimal_in : Octets → Option ℕ
decimal_in part =
    if nat_le 1 (length part) && nat_le (length part) 19 && all_ascii_digits part
    then Some (digits_value 10 part)
    else None

-- the line of a word and a number
abbrev pub count_line : Octets → ℕ → Octets
count_line word n = word ++ codes " " ++ decimal n ++ 10 ∷ []

-- For a numeral: these ten octets are spaces and then the digits of the number, and this is the greatest multiple of
-- 1000 that isn't above the number.
pub record IsWritten (number thousands : ℕ) (digits : Octets) (spaces : ℕ) : Type 0 where
  pub small : number < 2 ^ 32
  pub multiple : thousands ≡ number / 1000 * 1000
  pub room : spaces + length (decimal number) ≡ 10
  pub octets : digits ≡ replicate spaces 32 ++ decimal number
