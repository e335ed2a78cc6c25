-- Lists with a member.
use Rattle.std.specs.Prelude.{Bool, true, false, List, [], ◌∷◌}

-- whether a list has a member
abbrev pub is_filled : {A : Type 0} → List A → Bool
is_filled [] = false
is_filled (x ∷ xs) = true
