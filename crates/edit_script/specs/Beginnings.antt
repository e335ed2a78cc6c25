-- What begins the texts of a kind.
use Rattle.std.specs.Prelude.{◌≡◌, ◌<◌, ℕ, [], ◌∷◌, ◌++◌, length}
use Rattle.edi_tables.specs.Octets.{Octets}

-- a part of a text: one begins with these octets, and others follow them there
abbrev pub IsPartOf : (Octets → Type 0) → Octets → Type 0
IsPartOf IsText part = (more : Octets) × (0 < length more) × IsText (part ++ more)

-- no text begins with these octets, and they begin with no text
abbrev pub BeginsNoneOf : (Octets → Type 0) → Octets → Type 0
BeginsNoneOf IsText octets = (text more behind : Octets) → IsText text → octets ++ more ≡ text ++ behind → ⊥

-- no text begins with these octets, and without the last one they are a part of one
abbrev pub IsBadOf : (Octets → Type 0) → Octets → Type 0
IsBadOf IsText octets =
    (front : Octets) × (last : ℕ) × (octets ≡ front ++ last ∷ []) × IsPartOf IsText front × BeginsNoneOf IsText octets
