-- Lists that are changed item by item.
use Rattle.std.proofs.Common.{◌≡◌, ℕ, zero, suc, ◌+◌, ◌<◌, ◌≤◌, List, [], ◌∷◌, ◌++◌, length, get_or, set, map, take, drop, refl, ap, ◌∙◌, arith}

module _ {X : Type 0} (f : X → X) where
  -- what a list is after its first i items were changed
  abbrev pub changed_to : ℕ → List X → List X
  changed_to i xs = map f (take i xs) ++ drop i xs

  pub changed-read : (i : ℕ) (xs : List X) (d : X) → get_or (changed_to i xs) i d ≡ get_or xs i d
  changed-read zero xs d = refl
  changed-read (suc i) [] d = refl
  changed-read (suc i) (x ∷ xs) d = changed-read i xs d

  pub changed-more : (i : ℕ) (xs : List X) (d : X) → i < length xs → set (changed_to i xs) i (f (get_or xs i d)) ≡ changed_to (suc i) xs
  changed-more i [] d within = absurd (omega arith)
  changed-more zero (x ∷ xs) d within = refl
  changed-more (suc i) (x ∷ xs) d within = ap (λ (ys : List X). f x ∷ ys) (changed-more i xs d (omega arith))

  pub changed-all : (i : ℕ) (xs : List X) → length xs ≤ i → changed_to i xs ≡ map f xs
  changed-all zero [] all = refl
  changed-all (suc i) [] all = refl
  changed-all zero (x ∷ xs) all = absurd (omega arith)
  changed-all (suc i) (x ∷ xs) all = ap (λ (ys : List X). f x ∷ ys) (changed-all i xs (omega arith))

  -- the step of a loop, at an item y that is read and the value z that is written
  pub changed-step : (i : ℕ) (xs ys : List X) (d z : X) → i < length xs → ys ≡ changed_to i xs → z ≡ f (get_or ys i d) → set ys i z ≡ changed_to (i + 1) xs
  changed-step i xs ys d z within so_far is =
      let read : get_or ys i d ≡ get_or xs i d = ap (λ (zs : List X). get_or zs i d) so_far ∙ changed-read i xs d in
      let next : suc i ≡ i + 1 = omega arith in
      ap (λ (zs : List X). set zs i z) so_far
      ∙ (ap (set (changed_to i xs) i) (is ∙ ap f read) ∙ (changed-more i xs d within ∙ ap (λ (n : ℕ). changed_to n xs) next))
