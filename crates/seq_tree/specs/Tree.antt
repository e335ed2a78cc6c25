-- For bodies and their invariants: the items of a node, and what a tree keeps of them.
use Rattle.std.specs.Prelude.{◌≡◌, ℕ, ◌+◌, ◌*◌, ◌^◌, ◌<◌, ◌≤◌, max, List, ◌++◌, length, sum_by}
use Rattle.seq_tree.specs.declared.tree.Node.{Node}
use Rattle.seq_tree.specs.declared.tree.Node.TheVariants.{Leaf, Fork}
use Rattle.seq_tree.specs.Shape.{IsBalancedPair, FillsHeight}

-- the items of a node from left to right, where a side is known by its items and its height
abbrev pub items : {T : Type 0} → Node T → List T
items (Leaf run) = run
items (Fork sides) = sides.value.left.0 ++ sides.value.right.0

-- n items that weigh w in all, fewer than 2 to the power 32, none above 4294967295, of which m are marked, and enough
-- for a tree of height h
pub record Counts {T : Type 0} (measure marks : T → ℕ) (xs : List T) (h n w m : ℕ) : Type 0 where
  pub len : n ≡ length xs
  pub fits : n < 2 ^ 32
  pub total : w ≡ sum_by measure xs
  pub bound : w ≤ 4294967295 * n
  pub marked : m ≡ sum_by marks xs
  pub most : m ≤ n
  pub enough : FillsHeight h n

-- a leaf has height 0; a fork is balanced, and a level above its higher side
abbrev pub HasSides : {T : Type 0} → Node T → ℕ → Type 0
HasSides (Leaf run) height = height ≡ 0
HasSides (Fork sides) height =
    (height ≡ max sides.value.left.1 sides.value.right.1 + 1) × IsBalancedPair sides.value.left.1 sides.value.right.1
