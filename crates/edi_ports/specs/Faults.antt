-- Counts of faults.
use Rattle.std.specs.Prelude.{ℕ, ◌+◌, ◌≤◌, min}

-- a count after one more fault: it stays at 2^64 - 1
abbrev pub one_more : ℕ → ℕ
one_more n = min (n + 1) 18446744073709551615

-- a count of faults rose; one that is at its end, 2^64 - 1, is said to rise there
abbrev pub HasRisen : ℕ → ℕ → Type 0
HasRisen before now = one_more before ≤ now

-- a call was fair to an object that may fail: the count of its faults never fell, and it rose if the call tells of a
-- fault; an object none of whose calls fails is told no fault of, and stays so
pub record IsFair {O : Type 0} (faults : O → ℕ) (is_steady : O → Type 0) (before now : O) (Failed : Type 0) :
    Type 0 where
  pub counted : faults before ≤ faults now
  pub cause : Failed → HasRisen (faults before) (faults now)
  pub steady : is_steady before → (Failed → ⊥) × is_steady now
