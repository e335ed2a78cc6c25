-- Lists that say something of each place, and the places of marked items.
use Rattle.std.proofs.Common.{◌≡◌, ℕ, ◌+◌, ◌-◌, ◌<◌, ◌≤◌, List, [], ◌∷◌, ◌++◌, zero, suc, length, take, drop, get_or, sum_by, refl, sym, ap, ◌∙◌, subst, arith}
use Rattle.std.proofs.Math.Nat.{lt_of_not-le}
use Rattle.std.specs.Prelude.{slice_range}
use Rattle.std.proofs.lemmas.List.{length-drop, length-take}
use Rattle.std.proofs.lemmas.Option.{get_or_from_slice_get, slice_get_read, slice_get_within}
use Rattle.std.proofs.lemmas.List.Sums.{sum_by-take-drop}
use Rattle.seq_tree.specs.Items.{EachEntry, IsMarkedPlace}
use Rattle.seq_tree.proofs.Parts.{sum_by_place}
use Rattle.seq_tree.proofs.Ranges.{sum_to_range}
use Rattle.seq_tree.proofs.Through.{sum_to}

-- one more entry
pub each_pushed : {A : Type 0} (IsSo : ℕ → A → Type 0) (xs : List A) (y : A) → EachEntry xs IsSo → IsSo (length xs) y → EachEntry (xs ++ y ∷ []) IsSo
each_pushed IsSo [] y each here zero x is = subst (IsSo 0) (get_or_from_slice_get (y ∷ []) 0 x x is) here
each_pushed IsSo [] y each here (suc i) x is = absurd (omega (arith, slice_get_within (y ∷ []) (suc i) x is))
each_pushed IsSo (z ∷ xs) y each here zero x is = each zero x is
each_pushed IsSo (z ∷ xs) y each here (suc i) x is = each_pushed (λ k. IsSo (suc k)) xs y (λ k w e. each (suc k) w e) here i x is

-- the sum up to an item of a list, itself included
pub sum_next : {T : Type 0} (f : T → ℕ) (xs : List T) (i : ℕ) (x : T) → i < length xs → x ≡ get_or xs i x → sum_by f (take (i + 1) xs) ≡ sum_by f (take i xs) + f x
sum_next f xs i x within is = sum_by_place f xs i x (slice_get_read xs (length xs) i x refl within is)

-- longer fronts weigh no less
sum_more : {T : Type 0} (f : T → ℕ) (xs : List T) (i j : ℕ) → i ≤ j → sum_by f (take i xs) ≤ sum_by f (take j xs)
sum_more f xs i j less = omega (arith, sum_to f xs i j (j - i) (omega arith))

-- two octets don't hold what lies before an item that is past the weights
pub weight_past : {T : Type 0} (f : T → ℕ) (xs : List T) (ws : List ℕ) (i : ℕ) → (length ws < length xs → 65535 < sum_by f (take (length ws) xs)) → i < length xs → length ws ≤ i → 65535 < sum_by f (take i xs)
weight_past f xs ws i first within past = omega (arith, first (omega (arith, within, past)), sum_more f xs (length ws) i past)

-- the marked item of a range is one of the whole: no item before the range is it
pub marked_in_range : {T : Type 0} (m : T → ℕ) (xs : List T) (a n rank p : ℕ) → rank < sum_by m (slice_range xs a (a + n)) → IsMarkedPlace m xs (sum_by m (take a xs) + rank) p → (a ≤ p) × IsMarkedPlace m (slice_range xs a (a + n)) rank (p - a)
marked_in_range m xs a n rank p within found =
    let late : a < p + 1 = lt_of_not-le (λ early. omega (arith, sum_more m xs (p + 1) a early, found.marked)) in
    let all : a + n - a ≡ n = omega arith in
    let whole : sum_by m (take (a + n) xs) ≡ sum_by m (take a xs) + sum_by m (slice_range xs a (a + n)) = sum_to m xs a (a + n) n refl ∙ ap (λ k. sum_by m (take a xs) + sum_by m (take k (drop a xs))) (sym all) in
    let before : p < a + n = lt_of_not-le (λ late. omega (arith, sum_more m xs (a + n) p late, found.rank, whole, within)) in
    let long = length-take (a + n - a) (drop a xs) in
    let there : a + (p - a) ≡ p = omega arith in
    let next : a + (p - a + 1) ≡ p + 1 = omega arith in (
      omega (arith, late),
      record {
        inside = omega (arith, long, length-drop a xs, before, found.inside);
        rank = omega (arith, sum_to_range m xs a n (p - a) (omega arith), ap (λ k. sum_by m (take k xs)) there, found.rank);
        marked = omega (arith, sum_to_range m xs a n (p - a + 1) (omega arith), ap (λ k. sum_by m (take k xs)) next, found.marked);
      },
    )

-- the same of a part of a list, from a to b, before which so many items are marked
pub marked_in_part : {T : Type 0} (m : T → ℕ) (xs part : List T) (a b skipped rank p : ℕ) → a < b → slice_range xs a b ≡ part → skipped ≡ sum_by m (take a xs) → rank < sum_by m part → IsMarkedPlace m xs (skipped + rank) p → (a ≤ p) × IsMarkedPlace m part rank (p - a)
marked_in_part m xs part a b skipped rank p some is before within found =
    let far : a + (b - a) ≡ b = omega (arith, some) in
    let same : slice_range xs a (a + (b - a)) ≡ part = ap (slice_range xs a) far ∙ is in
    let here = marked_in_range m xs a (b - a) rank p (subst (λ ys. rank < sum_by m ys) (sym same) within) (subst (λ n. IsMarkedPlace m xs (n + rank) p) before found) in
    (here.0, subst (λ ys. IsMarkedPlace m ys rank (p - a)) same here.1)

-- as many are marked in the whole as before a part and in it
pub ranks_fit : {T : Type 0} (m : T → ℕ) (xs part : List T) (a b skipped : ℕ) → a < b → slice_range xs a b ≡ part → skipped ≡ sum_by m (take a xs) → skipped + sum_by m part ≤ sum_by m xs
ranks_fit m xs part a b skipped some is before =
    let whole : sum_by m (take b xs) ≡ sum_by m (take a xs) + sum_by m (take (b - a) (drop a xs)) = sum_to m xs a b (b - a) (omega (arith, some)) in
    let same : sum_by m (take (b - a) (drop a xs)) ≡ sum_by m part = ap (sum_by m) is in
    omega (arith, whole, same, before, sum_by-take-drop m xs b)

-- what lies before an item of a part
pub weight_in_part : {T : Type 0} (w : T → ℕ) (xs part : List T) (a b i front both : ℕ) → a < b → slice_range xs a b ≡ part → i < length part → front ≡ sum_by w (take a xs) → both ≡ sum_by w (take (a + i) xs) → both ≡ front + sum_by w (take i part)
weight_in_part w xs part a b i front both some is within front_is both_is =
    let far : a + (b - a) ≡ b = omega (arith, some) in
    let same : slice_range xs a (a + (b - a)) ≡ part = ap (slice_range xs a) far ∙ is in
    let long = length-take (b - a) (drop a xs) in
    let count : length part ≡ length (take (b - a) (drop a xs)) = ap length (sym is) in
    let sum = sum_to_range w xs a (b - a) i (omega (arith, long, count, within)) in
    omega (arith, sum, ap (λ ys. sum_by w (take i ys)) same, front_is, both_is)
