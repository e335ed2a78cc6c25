-- The names of files.
use Rattle.std.specs.Prelude.{ℕ, Bool, not, ◌&&◌, ◌||◌, ◌==◌, nat_le, length, slice_index}
use Rattle.std.specs.List.{slice_split, list_all}
use Rattle.edi_tables.specs.Octets.{Octets}
use Rattle.edi_tables.specs.Tag.{is_capital, is_digit}
use Rattle.edi_tables.specs.Filled.{is_filled}

-- a letter of either case, a digit, `.`, `_` or `-`
abbrev pub is_name_octet : ℕ → Bool
is_name_octet x = is_capital x || (nat_le 97 x && nat_le x 122) || is_digit x || x == 46 || x == 95 || x == 45

-- a part of a name isn't empty and doesn't begin with `.`
abbrev pub is_name_part : Octets → Bool
is_name_part part = is_filled part && list_all is_name_octet part && not (slice_index part 0 == 46)

-- a name has 1 to 128 octets: parts, separated by `/`
unfoldable pub is_name_of : Octets → Bool
is_name_of name =
    nat_le 1 (length name) && nat_le (length name) 128 && list_all is_name_part (slice_split (λ x. x == 47) name)
