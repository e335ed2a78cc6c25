-- Two worked cases, which the checker computes.
use Rattle.std.proofs.Common.{◌≡◌, [], ◌∷◌, ◌++◌, codes, refl}
use Rattle.edi_octets.specs.Lines.{lines_from, lines_of, cells_of}
use Rattle.edi_octets.specs.Profile.{fields_of, indentation_of}

-- one mark before a space is read as a space, and a second `+` after it is a field
marked : fields_of (codes "+ 1001 + a ") ≡ codes "1001" ∷ codes "+" ∷ codes "a" ∷ []
unfolding fields_of cells_of
marked = refl

-- four marks are a field
unmarked_line : indentation_of (codes "++++ 1001") ≡ 0
unfolding indentation_of
unmarked_line = refl

-- one CR goes before an LF, and the last line without LF keeps its CR
ended : lines_of (codes "a" ++ 13 ∷ 13 ∷ 10 ∷ 10 ∷ codes "b" ++ 13 ∷ []) ≡ record { number = 1; octets = codes "a" ++ 13 ∷ [] } ∷ record { number = 2; octets = [] } ∷ record { number = 3; octets = codes "b" ++ 13 ∷ [] } ∷ []
unfolding lines_from
ended = refl
