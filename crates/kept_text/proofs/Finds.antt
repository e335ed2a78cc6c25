-- The first item of a list that passes a test, given by the items' places.
use Rattle.std.proofs.Common.{◌≡◌, ℕ, zero, suc, ◌+◌, ◌<◌, ◌≤◌, Bool, true, false, List, [], ◌∷◌, length, drop, Some, None, inl, inr, refl, sym, ap, ◌∙◌, arith}
use Rattle.std.specs.List.{find, slice_get}
use Rattle.std.proofs.lemmas.Bool.{cases_Bool, cond-false, cond-true}
use Rattle.std.proofs.lemmas.List.{drop_all}
use Rattle.std.proofs.lemmas.Option.{same_Some}
use Rattle.edi_octets.proofs.PlaceLemmas.{drop_here}

module _ {X : Type 0} (p : X → Bool) where
  -- where the first k don't pass, it is the first of the others
  pub find_skip : (k : ℕ) (xs : List X) → ((i : ℕ) (x : X) → i < k → slice_get xs i ≡ Some x → p x ≡ false)
      → find p xs ≡ find p (drop k xs)
  find_skip zero xs fail = refl
  find_skip (suc k) [] fail = refl
  find_skip (suc k) (x ∷ xs) fail =
      cond-false (p x) (Some x) (find p xs) (fail 0 x (omega arith) refl)
      ∙ find_skip k xs (λ i y before is. fail (suc i) y (omega arith) is)

  -- from place i on: the item there is passed over, or it is the one, or there is none
  pub find_next : (xs : List X) (i : ℕ) (x : X) → slice_get xs i ≡ Some x → p x ≡ false
      → find p (drop i xs) ≡ find p (drop (i + 1) xs)
  find_next xs i x is fails =
      ap (find p) (drop_here xs i x is) ∙ cond-false (p x) (Some x) (find p (drop (i + 1) xs)) fails

  pub find_here : (xs : List X) (i : ℕ) (x : X) → slice_get xs i ≡ Some x → p x ≡ true → find p (drop i xs) ≡ Some x
  find_here xs i x is passes =
      ap (find p) (drop_here xs i x is) ∙ cond-true (p x) (Some x) (find p (drop (i + 1) xs)) passes

  pub find_end : (xs : List X) (i : ℕ) → length xs ≤ i → find p (drop i xs) ≡ None
  find_end xs i past = ap (find p) (drop_all i xs past)

  -- what is found passes, and has a place
  pub found_at : (xs : List X) (x : X) → find p xs ≡ Some x → (i : ℕ) × (slice_get xs i ≡ Some x) × (p x ≡ true)
  found_at [] x is = absurd (let none : ⊥ = cc in none)
  found_at (y ∷ ys) x is = elim (cases_Bool (p y)) [
    | inl passes ↦
        let first : Some y ≡ Some x = sym (cond-true (p y) (Some y) (find p ys) passes) ∙ is in
        (0, first, sym (ap p (same_Some y x first)) ∙ passes)
    | inr fails ↦
        let later = found_at ys x (sym (cond-false (p y) (Some y) (find p ys) fails) ∙ is) in
        (suc later.0, later.1, later.2)
  ]

  -- where an item passes, one is found that isn't after it
  pub found_by : (xs : List X) (m : ℕ) (x : X) → slice_get xs m ≡ Some x → p x ≡ true
      → (y : X) × (i : ℕ) × (find p xs ≡ Some y) × (slice_get xs i ≡ Some y) × (i ≤ m)
  found_by [] m x is passes = absurd (let none : ⊥ = cc in none)
  found_by (z ∷ zs) zero x is passes =
      let same : z ≡ x = same_Some z x is in
      (z, 0, cond-true (p z) (Some z) (find p zs) (ap p same ∙ passes), refl, omega arith)
  found_by (z ∷ zs) (suc m) x is passes = elim (cases_Bool (p z)) [
    | inl first ↦ (z, 0, cond-true (p z) (Some z) (find p zs) first, refl, omega arith)
    | inr fails ↦
        let later = found_by zs m x is passes in
        let low = later.4 in
        (later.0, suc later.1, cond-false (p z) (Some z) (find p zs) fails ∙ later.2, later.3, omega arith)
  ]
