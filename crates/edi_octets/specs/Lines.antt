-- The lines of a file, and the words of a line.
use Rattle.std.specs.Prelude.{◌-◌, ◌+◌, ℕ, Bool, ◌==◌, List, [], ◌∷◌, length, take, drop, filter, slice_index, if◌then◌else◌}
use Rattle.std.specs.List.{slice_split, prefix_len}
use Rattle.edi_tables.specs.Octets.{Octets}
use Rattle.edi_tables.specs.Filled.{is_filled}

-- a line and its number, from 1
pub record Line : Type 0 where
  pub number : ℕ
  pub octets : Octets

-- a line that LF ends, without one CR directly before it
abbrev pub without_return : Octets → Octets
without_return octets =
    if is_filled octets
    then (if slice_index octets (length octets - 1) == 13 then take (length octets - 1) octets else octets)
    else octets

-- what is between line ends, as lines: each part but the last ended with LF; the last is a line where it isn't
-- empty
abbrev pub line_octets : List Octets → List Octets
line_octets [] = []
line_octets (last ∷ []) = if is_filled last then last ∷ [] else []
line_octets (part ∷ next ∷ parts) = without_return part ∷ line_octets (next ∷ parts)

-- numbered from n
abbrev pub numbered_from : ℕ → List Octets → List Line
numbered_from n [] = []
numbered_from n (octets ∷ parts) = record { number = n; octets = octets } ∷ numbered_from (n + 1) parts

-- the lines of a text, numbered from n
unfoldable pub lines_from : ℕ → Octets → List Line
lines_from n text = numbered_from n (line_octets (slice_split (λ x. x == 10) text))

-- the lines of a file, numbered from 1
abbrev pub lines_of : Octets → List Line
lines_of file = lines_from 1 file

-- a space
abbrev pub is_space : ℕ → Bool
is_space x = x == 32

-- the pieces of a text between single spaces; a piece may be empty
abbrev pub pieces_in : Octets → List Octets
pieces_in text = slice_split is_space text

-- a text without the spaces in front
abbrev pub after_spaces : Octets → Octets
after_spaces text = drop (prefix_len is_space text) text

-- the cells of a line: its longest parts without a space, in order
unfoldable pub cells_of : Octets → List Octets
cells_of line = filter is_filled (pieces_in line)
