-- What is known of the items of a short list without a look at them.
use Rattle.std.specs.Prelude.{◌≡◌, ℕ, ◌+◌, ◌*◌, ◌<◌, ◌≤◌, List, Some, length, take, sum_by, slice_get}
use Rattle.seq_tree.specs.Shape.{longest_run}

-- each entry of a list is so with its place
abbrev pub EachEntry : {A : Type 0} → List A → (ℕ → A → Type 0) → Type 0
EachEntry xs IsSo = (i : ℕ) (x : _) → slice_get xs i ≡ Some x → IsSo i x

-- at this place is the marked item before which n are marked: with it n + 1 are
pub record IsMarkedPlace {T : Type 0} (marks_of : T → ℕ) (xs : List T) (n place : ℕ) : Type 0 where
  pub inside : place < length xs
  pub rank : sum_by marks_of (take place xs) ≡ n
  pub marked : sum_by marks_of (take (place + 1) xs) ≡ n + 1

-- items weigh w; before each of the first ones lies what ws says, and ks are the places of the marked ones. If ws ends
-- before the items do, two octets don't hold what comes next
pub record IsKnown {T : Type 0} (measure marks_of : T → ℕ) (xs : List T) (w : ℕ) (ws ks : List ℕ) : Type 0 where
  pub few : length xs ≤ longest_run
  pub total : w ≡ sum_by measure xs
  pub bound : w ≤ 4294967295 * length xs
  pub weights : EachEntry ws (λ i weight. weight ≡ sum_by measure (take i xs))
  pub first : length ws < length xs → 65535 < sum_by measure (take (length ws) xs)
  pub marked : EachEntry ks (IsMarkedPlace marks_of xs)
  pub marks : length ks ≡ sum_by marks_of xs
  pub most : length ks ≤ length xs
