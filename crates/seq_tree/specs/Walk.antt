-- What only bodies and invariants need: the trees that a walk still has to go over.
use Rattle.std.specs.Prelude.{ℕ, ◌-◌, ◌<◌, Option, Some, None, List, [], ◌∷◌, ◌++◌}
use Rattle.std.specs.Borrow.{Bor}

-- the items that are to come: those of the last tree first
abbrev pub pending_items : {T : Type 0} → List (Option (Bor (List T × ℕ))) → List T
pending_items [] = []
pending_items (None ∷ trees) = pending_items trees
pending_items (Some tree ∷ trees) = pending_items trees ++ tree.now.0

-- each tree is lower than the room from its place on, so that its right sides fit there on the way down
abbrev pub IsStack : {T : Type 0} → ℕ → List (Option (Bor (List T × ℕ))) → Type 0
IsStack room [] = Unit {0}
IsStack room (None ∷ trees) = ⊥
IsStack room (Some tree ∷ trees) = (tree.now.1 < room) × IsStack (room - 1) trees
