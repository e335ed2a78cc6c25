-- Where stretches start, said of ascending ends, and the ends that are below a place.
use Rattle.std.proofs.Common.{◌≡◌, ℕ, zero, suc, ◌+◌, ◌<◌, ◌≤◌, ltb, List, [], ◌∷◌, length, take, Some, inl, inr, refl, sym, ap, ◌∙◌, subst, arith}
use Rattle.std.specs.Prelude.{map}
use Rattle.std.specs.List.{filter, slice_get}
use Rattle.std.proofs.lemmas.Bool.{cases_lt, cond-true, cond_both, lt-ltb, ltb-true}
use Rattle.seg_lexer.specs.Whole.{after_last}
use Rattle.seg_lexer.proofs.EndsLemmas.{IsAscending, below-none}

-- where stretches start: at place b, and after each of these ends
abbrev pub starts : ℕ → List ℕ → List ℕ
starts b es = b ∷ map (λ e. e + 1) es

-- those of these ends that are below a place
abbrev pub below : ℕ → List ℕ → List ℕ
below place es = filter (λ e. ltb e place) es

-- no stretch starts before b
pub start_low : (b : ℕ) (es : List ℕ) (k p : ℕ) → IsAscending b es → slice_get (starts b es) k ≡ Some p → b ≤ p
start_low b es zero p order is = let same : b ≡ p = cc in omega arith
start_low b [] (suc k) p order is = absurd (let none : ⊥ = cc in none)
start_low b (e ∷ es) (suc k) p order is =
    let later = start_low (e + 1) es k p order.1 is in
    let low = order.0 in
    omega arith

-- the ends below start k are the first k
pub below_start : (b : ℕ) (es : List ℕ) (k p : ℕ) → IsAscending b es → slice_get (starts b es) k ≡ Some p
    → below p es ≡ take k es
below_start b es zero p order is =
    let same : b ≡ p = cc in
    below-none p es (subst (λ (n : ℕ). IsAscending n es) same order)
below_start b [] (suc k) p order is = absurd (let none : ⊥ = cc in none)
below_start b (e ∷ es) (suc k) p order is =
    let low = start_low (e + 1) es k p order.1 is in
    cond-true (ltb e p) (e ∷ below p es) (below p es) (lt-ltb e p (omega arith))
    ∙ ap (λ (xs : List ℕ). e ∷ xs) (below_start (e + 1) es k p order.1 is)

-- the first end is below a place, or none is
module _ (place e : ℕ) (es : List ℕ) where
  below_first : e < place → below place (e ∷ es) ≡ e ∷ below place es
  below_first low = cond-true (ltb e place) (e ∷ below place es) (below place es) (lt-ltb e place low)

  below_nothing : (b : ℕ) → IsAscending b (e ∷ es) → place ≤ e → below place (e ∷ es) ≡ []
  below_nothing b order high = below-none place (e ∷ es) (high, order.1)

-- after the ends below a place comes the start that their number tells
pub start_at : (b place : ℕ) (es : List ℕ) → IsAscending b es
    → slice_get (starts b es) (length (below place es)) ≡ Some (after_last b (below place es))
start_at b place [] order = refl
start_at b place (e ∷ es) order = elim (cases_lt e place) [
  | inl low ↦
      subst
      (λ (xs : List ℕ). slice_get (starts b (e ∷ es)) (length xs) ≡ Some (after_last b xs))
      (sym (below_first place e es low)) (start_at (e + 1) place es order.1)
  | inr high ↦
      subst
      (λ (xs : List ℕ). slice_get (starts b (e ∷ es)) (length xs) ≡ Some (after_last b xs))
      (sym (below_nothing place e es b order high)) refl
]

-- it isn't past the place
pub start_within : (b place : ℕ) (es : List ℕ) → b ≤ place → after_last b (below place es) ≤ place
start_within b place [] low = low
start_within b place (e ∷ es) low =
    cond_both (ltb e place) (e ∷ below place es) (below place es) (λ (xs : List ℕ). after_last b xs ≤ place)
    (λ yes. let less = ltb-true e place yes in start_within (e + 1) place es (omega arith))
    (λ _. start_within b place es low)

-- starts ascend
pub starts_ascend : (b : ℕ) (es : List ℕ) (i m x y : ℕ) → IsAscending b es → i < m
    → slice_get (starts b es) i ≡ Some x → slice_get (starts b es) m ≡ Some y → x < y
starts_ascend b es i zero x y order before one two = absurd (omega arith)
starts_ascend b [] i (suc m) x y order before one two = absurd (let none : ⊥ = cc in none)
starts_ascend b (e ∷ es) zero (suc m) x y order before one two =
    let same : b ≡ x = cc in
    let low = order.0 in
    let later = start_low (e + 1) es m y order.1 two in
    omega arith
starts_ascend b (e ∷ es) (suc i) (suc m) x y order before one two =
    starts_ascend (e + 1) es i m x y order.1 (omega arith) one two

-- the ends that are counted as below a place are below it
pub counted_below : (b place : ℕ) (es : List ℕ) (i x : ℕ) → IsAscending b es → i < length (below place es)
    → slice_get es i ≡ Some x → x < place
counted_below b place [] i x order before is = absurd (omega arith)
counted_below b place (e ∷ es) zero x order before is = elim (cases_lt e place) [
  | inl low ↦ let same : e ≡ x = cc in omega arith
  | inr high ↦
      let count : length (below place (e ∷ es)) ≡ 0 = ap length (below_nothing place e es b order high) in
      absurd (omega arith)
]
counted_below b place (e ∷ es) (suc i) x order before is = elim (cases_lt e place) [
  | inl low ↦
      let count : length (below place (e ∷ es)) ≡ suc (length (below place es)) =
      ap length (below_first place e es low) in
      counted_below (e + 1) place es i x order.1 (omega arith) is
  | inr high ↦
      let count : length (below place (e ∷ es)) ≡ 0 = ap length (below_nothing place e es b order high) in
      absurd (omega arith)
]

-- the next one isn't
pub next_past : (b place : ℕ) (es : List ℕ) (x : ℕ) → IsAscending b es
    → slice_get es (length (below place es)) ≡ Some x → place ≤ x
next_past b place [] x order is = absurd (let none : ⊥ = cc in none)
next_past b place (e ∷ es) x order is = elim (cases_lt e place) [
  | inl low ↦
      next_past (e + 1) place es x order.1
      (sym (ap (λ (xs : List ℕ). slice_get (e ∷ es) (length xs)) (below_first place e es low)) ∙ is)
  | inr high ↦
      let first : Some e ≡ Some x =
      sym (ap (λ (xs : List ℕ). slice_get (e ∷ es) (length xs)) (below_nothing place e es b order high)) ∙ is in
      let same : e ≡ x = cc in
      omega arith
]
