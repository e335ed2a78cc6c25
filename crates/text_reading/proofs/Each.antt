-- What holds of each member of a list, by recursion.
use Rattle.std.proofs.Common.{◌≡◌, ℕ, zero, suc, ◌+◌, ◌<◌, ◌≤◌, Bool, true, cond, List, [], ◌∷◌, ◌++◌, map, take, sym, inl, inr, subst, arith}
use Rattle.std.specs.Prelude.{filter, slice_get, Some}
use Rattle.std.specs.List.{flat_map, range_with_len}
use Rattle.std.proofs.lemmas.Bool.{cases_Bool}

abbrev pub Each : {X : Type 0} → (X → Type 0) → List X → Type 0
Each P [] = Unit {0}
Each P (x ∷ xs) = P x × Each P xs

module _ {X : Type 0} (P : X → Type 0) where
  pub each-append : (xs ys : List X) → Each P xs → Each P ys → Each P (xs ++ ys)
  each-append [] ys all more = more
  each-append (x ∷ xs) ys all more = (all.0, each-append xs ys all.1 more)

  pub each-take : (n : ℕ) (xs : List X) → Each P xs → Each P (take n xs)
  each-take zero xs all = tt
  each-take (suc n) [] all = tt
  each-take (suc n) (x ∷ xs) all = (all.0, each-take n xs all.1)

  pub each-filter : (p : X → Bool) (xs : List X) → Each P xs → Each P (filter p xs)
  each-filter p [] all = tt
  each-filter p (x ∷ xs) all = elim (cases_Bool (p x)) [
    | inl is ↦ subst (λ (b : Bool). Each P (cond b (x ∷ filter p xs) (filter p xs))) (sym is) (all.0, each-filter p xs all.1)
    | inr is ↦ subst (λ (b : Bool). Each P (cond b (x ∷ filter p xs) (filter p xs))) (sym is) (each-filter p xs all.1)
  ]

  pub each-all : ((x : X) → P x) → (xs : List X) → Each P xs
  each-all all [] = tt
  each-all all (x ∷ xs) = (all x, each-all all xs)

-- what is kept by a test passes it
pub each-kept : {X : Type 0} (p : X → Bool) (xs : List X) → Each (λ x. p x ≡ true) (filter p xs)
each-kept p [] = tt
each-kept p (x ∷ xs) = elim (cases_Bool (p x)) [
  | inl is ↦ subst (λ (b : Bool). Each (λ y. p y ≡ true) (cond b (x ∷ filter p xs) (filter p xs))) (sym is) (is, each-kept p xs)
  | inr is ↦ subst (λ (b : Bool). Each (λ y. p y ≡ true) (cond b (x ∷ filter p xs) (filter p xs))) (sym is) (each-kept p xs)
]

module _ {X Y : Type 0} (P : X → Type 0) (Q : Y → Type 0) where
  pub each-map : (f : X → Y) → ((x : X) → P x → Q (f x)) → (xs : List X) → Each P xs → Each Q (map f xs)
  each-map f each [] all = tt
  each-map f each (x ∷ xs) all = (each x all.0, each-map f each xs all.1)

  pub each-flat : (f : X → List Y) → ((x : X) → P x → Each Q (f x)) → (xs : List X) → Each P xs → Each Q (flat_map f xs)
  each-flat f each [] all = tt
  each-flat f each (x ∷ xs) all = each-append Q (f x) (flat_map f xs) (each x all.0) (each-flat f each xs all.1)

module _ {X : Type 0} (P Q : X → Type 0) where
  pub each-both : (xs : List X) → Each P xs → Each Q xs → Each (λ x. P x × Q x) xs
  each-both [] one two = tt
  each-both (x ∷ xs) one two = ((one.0, two.0), each-both xs one.1 two.1)

  pub each-more : ((x : X) → P x → Q x) → (xs : List X) → Each P xs → Each Q xs
  each-more more [] all = tt
  each-more more (x ∷ xs) all = (more x all.0, each-more more xs all.1)

-- the numbers of a range are below its end
pub each-range : (a n b : ℕ) → a + n ≤ b → Each (λ k. k < b) (range_with_len a n)
each-range a zero b within = tt
each-range a (suc n) b within = (omega arith, each-range (a + 1) n b (omega arith))

-- what holds of each member holds of the one at a place
pub each-get : {X : Type 0} (P : X → Type 0) (xs : List X) (k : ℕ) (x : X) → Each P xs → slice_get xs k ≡ Some x → P x
each-get P [] k x all at = absurd (let never : ⊥ = cc in never)
each-get P (y ∷ ys) zero x all at = let same : y ≡ x = cc in subst P same all.0
each-get P (y ∷ ys) (suc k) x all at = each-get P ys k x all.1 at
