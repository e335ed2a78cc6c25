-- How high two trees are that are joined.
use Rattle.std.specs.Prelude.{◌≡◌, ℕ, ◌+◌, ◌≤◌, max}
use Rattle.seq_tree.specs.Shape.{IsBalancedPair}

-- the height of two trees joined: that of the higher one or a level more, and a level more where they are balanced
abbrev pub IsJoinHeight : ℕ → ℕ → ℕ → Type 0
IsJoinHeight a b h = (max a b ≤ h) × (h ≤ max a b + 1) × (IsBalancedPair a b → h ≡ max a b + 1)
