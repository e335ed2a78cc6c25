-- The shape of balanced trees: how high they are, how many items fill a height, and how many a leaf has.
use Rattle.std.specs.Prelude.{ℕ, ◌+◌, ◌/◌, ◌^◌, ◌≤◌}

-- the most items of a leaf, and of the list that it is a part of
abbrev pub longest_run : ℕ
longest_run = 32

-- the heights of the two sides of a fork: neither is more than one level above the other
abbrev pub IsBalancedPair : ℕ → ℕ → Type 0
IsBalancedPair a b = (a ≤ b + 1) × (b ≤ a + 1)

-- n items are enough for a balanced tree of height h: two to the power of half the height, rounded up
abbrev pub FillsHeight : ℕ → ℕ → Type 0
FillsHeight h n = 2 ^ ((h + 1) / 2) ≤ n
