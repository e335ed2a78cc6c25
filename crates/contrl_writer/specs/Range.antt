-- For bodies and their invariants: the part of a list whose items pass a test.
use Rattle.std.specs.Prelude.{ℕ, ◌≡◌, ◌+◌, ◌<◌, ◌≤◌, Bool, true, false, List, length, slice_index_or}

-- the items that pass are those at the k places from place a on
pub record IsRange {X : Type 0} (p : X → Bool) (xs : List X) (a k : ℕ) : Type 0 where
  pub within : a + k ≤ length xs
  pub before : (i : ℕ) (d : X) → i < a → p (slice_index_or xs i d) ≡ false
  pub inside : (i : ℕ) (d : X) → a ≤ i → i < a + k → p (slice_index_or xs i d) ≡ true
  pub after : (i : ℕ) (d : X) → a + k ≤ i → i < length xs → p (slice_index_or xs i d) ≡ false
