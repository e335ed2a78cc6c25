use Rattle.std.proofs.Common.{◌≡◌, ℕ, ◌+◌, List, take, sum_by, slice_get, Some}
use Rattle.std.proofs.lemmas.List.Sums.{sum_by_more}
use Rattle.std.proofs.lemmas.Option.{slice_get_within, get_or_from_slice_get}

-- the weight up to an item, itself included, is the weight before it and its own
pub sum_by_place : {X : Type 0} (m : X → ℕ) (xs : List X) (i : ℕ) (x : X) → slice_get xs i ≡ Some x → sum_by m (take (i + 1) xs) ≡ sum_by m (take i xs) + m x
sum_by_place m xs i x e = rw (get_or_from_slice_get xs i x x e) at (sum_by_more m xs i x (slice_get_within xs i x e))
