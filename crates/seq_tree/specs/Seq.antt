-- What a sequence is seen as.
use Rattle.std.specs.Prelude.{ℕ, Option, Some, None, List, []}

-- the items of a sequence: none, or those of its tree
abbrev pub root_items : {T : Type 0} → Option (List T × ℕ) → List T
root_items None = []
root_items (Some root) = root.0
