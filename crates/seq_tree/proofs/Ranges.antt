use Rattle.std.proofs.Common.{◌≡◌, ℕ, ◌+◌, ◌-◌, ◌≤◌, List, ◌++◌, length, take, drop, sum_by, sym, ap, ◌∙◌, take-add, take-take, drop-drop, arith}
use Rattle.std.specs.Prelude.{slice_range}
use Rattle.std.proofs.Math.Seq.{take-append-add, drop-append-add}
use Rattle.std.proofs.lemmas.List.{drop-take}
use Rattle.std.proofs.lemmas.List.Sums.{sum_by-append}

-- past the end of `xs`, the first items of `xs ++ ys` are those of `xs` and then the first of `ys`
pub take_right : {X : Type 0} (xs ys : List X) (n i : ℕ) → n ≡ length xs + i → take n (xs ++ ys) ≡ xs ++ take i ys
take_right xs ys n i e = rw e (take-append-add xs ys i)

-- past the end of `xs`, the items that are left of `xs ++ ys` are those that are left of `ys`
pub drop_right : {X : Type 0} (xs ys : List X) (n i : ℕ) → n ≡ length xs + i → drop n (xs ++ ys) ≡ drop i ys
drop_right xs ys n i e = rw e (drop-append-add xs ys i)

-- the same for the weights of the first items
pub sum_by_take_right : {X : Type 0} (m : X → ℕ) (xs ys : List X) (n i : ℕ) → n ≡ length xs + i → sum_by m (take n (xs ++ ys)) ≡ sum_by m xs + sum_by m (take i ys)
sum_by_take_right m xs ys n i e = rw (take_right xs ys n i e) (sum_by-append m xs (take i ys))

-- the first items of a range
pub range_front : {X : Type 0} (xs : List X) (a b i : ℕ) → a + i ≤ b → slice_range xs a (a + i) ≡ take i (slice_range xs a b)
range_front xs a b i h =
    let long : a + i - a ≡ i = omega arith in
    let less : i ≤ b - a = omega arith in
    ap (λ n. take n (drop a xs)) long ∙ sym (take-take i (b - a) (drop a xs) less)

-- the items of a range after them
pub range_back : {X : Type 0} (xs : List X) (a b i : ℕ) → a + i ≤ b → slice_range xs (a + i) b ≡ drop i (slice_range xs a b)
range_back xs a b i h =
    let long : i + (b - (a + i)) ≡ b - a = omega arith in
    ap (take (b - (a + i))) (sym (drop-drop i a xs)) ∙ sym (drop-take i (b - (a + i)) (drop a xs)) ∙ ap (λ n. drop i (take n (drop a xs))) long

-- the weights of the first items, up to one of a range
pub sum_to_range : {X : Type 0} (m : X → ℕ) (xs : List X) (a n i : ℕ) → i ≤ n → sum_by m (take (a + i) xs) ≡ sum_by m (take a xs) + sum_by m (take i (slice_range xs a (a + n)))
sum_to_range m xs a n i less =
    let within : i ≤ a + n - a = omega arith in
    let same : take i (slice_range xs a (a + n)) ≡ take i (drop a xs) = take-take i (a + n - a) (drop a xs) within in
    rw same (ap (sum_by m) (take-add a i xs) ∙ sum_by-append m (take a xs) (take i (drop a xs)))
