-- The words of a line.
use Rattle.std.specs.Prelude.{List, [], ◌∷◌, Option, Some, None}
use Rattle.edi_tables.specs.Octets.{Octets}
use Rattle.edi_octets.specs.Lines.{pieces_in}

-- the words of a line are separated by exactly one space: exactly two of them, three, and four
abbrev pub two_of : List Octets → Option (Octets × Octets)
two_of (a ∷ b ∷ []) = Some (a, b)
two_of words = None

-- three words, if there are just so many
abbrev pub three_of : List Octets → Option (Octets × Octets × Octets)
three_of (a ∷ b ∷ c ∷ []) = Some (a, b, c)
three_of words = None

-- four words, if there are just so many
abbrev pub four_of : List Octets → Option (Octets × Octets × Octets × Octets)
four_of (a ∷ b ∷ c ∷ d ∷ []) = Some (a, b, c, d)
four_of words = None

-- the two words of a line, separated by one space
abbrev pub two_in : Octets → Option (Octets × Octets)
two_in line = two_of (pieces_in line)

-- the three words of a line, separated by single spaces
abbrev pub three_in : Octets → Option (Octets × Octets × Octets)
three_in line = three_of (pieces_in line)

-- the four words of a line, separated by single spaces
abbrev pub four_in : Octets → Option (Octets × Octets × Octets × Octets)
four_in line = four_of (pieces_in line)
