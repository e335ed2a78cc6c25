-- How octets of a text are shown in printed lines.
use Rattle.std.specs.Prelude.{ℕ, ◌/◌, ◌%◌, false, not, ◌&&◌, ◌==◌, nat_le, [], ◌∷◌, if◌then◌else◌}
use Rattle.std.specs.Fmt.{digit_glyph}
use Rattle.edi_tables.specs.Octets.{Octets}

-- a shown octet: itself from 32 to 126, except the backslash;
-- any other is a backslash and two lower-case hexadecimal digits
abbrev pub octet_shown : ℕ → Octets
octet_shown x =
    if nat_le 32 x && nat_le x 126 && not (x == 92) then x ∷ []
    else 92 ∷ digit_glyph false (x / 16) ∷ digit_glyph false (x % 16) ∷ []
