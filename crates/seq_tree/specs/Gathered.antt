-- For bodies and their invariants: the items of trees side by side.
use Rattle.std.specs.Prelude.{ℕ, List}
use Rattle.std.specs.List.{flat_map}

-- the items of these trees, one tree after another
abbrev pub items_of : {T : Type 0} → List (List T × ℕ) → List T
items_of trees = flat_map (λ tree. tree.0) trees
