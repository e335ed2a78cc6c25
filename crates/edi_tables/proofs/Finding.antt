-- What a search over a stretch of places finds: the first place that passes, or the last.
use Rattle.std.proofs.Common.{◌≡◌, ℕ, zero, suc, ◌+◌, ◌<◌, ◌≤◌, Bool, true, false, cond, [], ◌∷◌, ◌++◌, Option, Some, None, refl, sym, ap, subst, ◌∙◌, inl, inr, arith, add-one}
use Rattle.std.specs.Prelude.{reverse, find, unwrap_or, MatchOption}
use Rattle.std.specs.List.{range_with_len}
use Rattle.std.proofs.lemmas.Bool.{cases_Bool, cases_eq, cases_order, true≢false}
use Rattle.std.proofs.lemmas.List.{map-id, reverse-append}
use Rattle.std.proofs.lemmas.List.FromFn.{map-range_with_len_more}

-- j is the first place from a on that passes, or the end e where none below it does
pub record IsFirstFrom (p : ℕ → Bool) (a e j : ℕ) : Type 0 where
  pub low : a ≤ j
  pub high : j ≤ e
  pub passes : j < e → p j ≡ true
  pub before : (k : ℕ) → a ≤ k → k < j → p k ≡ false

first_here : (p : ℕ → Bool) (a n e : ℕ) → a + suc n ≡ e → p a ≡ true → IsFirstFrom p a e a
first_here p a n e sum here =
    record { low = omega arith; high = omega arith; passes = λ _. here; before = λ k from below. absurd (omega arith) }

later_before : (p : ℕ → Bool) (a j k : ℕ) → p a ≡ false → ((k : ℕ) → a + 1 ≤ k → k < j → p k ≡ false) → a ≤ k → k < j → p k ≡ false
later_before p a j k fails before from below = grind (arith, cases_eq a k, before k)

first_later : (p : ℕ → Bool) (a e j : ℕ) → p a ≡ false → IsFirstFrom p (a + 1) e j → IsFirstFrom p a e j
first_later p a e j fails later = record {
  low = omega arith;
  high = omega arith;
  passes = later.passes;
  before = λ k from below. later_before p a j k fails later.before from below;
}

pub first_found : (p : ℕ → Bool) (a n e : ℕ) → a + n ≡ e → IsFirstFrom p a e (unwrap_or (find p (range_with_len a n)) e)
first_found p a zero e sum =
    record { low = omega arith; high = omega arith; passes = λ h. absurd (omega arith); before = λ k from below. absurd (omega arith) }
first_found p a (suc n) e sum = elim (cases_Bool (p a)) [
  | inl here ↦ rw here (first_here p a n e sum here)
  | inr fails ↦ rw fails (first_later p a e _ fails (first_found p (a + 1) n e (omega arith)))
]

-- the first place is one
pub first_once : (p : ℕ → Bool) (a e i j : ℕ) → IsFirstFrom p a e i → IsFirstFrom p a e j → i ≡ j
first_once p a e i j one other = elim (cases_order i j) [
  | inl same ↦ same
  | inr differ ↦ elim differ [
    | inl less ↦ absurd (true≢false (sym (one.passes (omega arith)) ∙ other.before i one.low less))
    | inr more ↦ absurd (true≢false (sym (other.passes (omega arith)) ∙ one.before j other.low more))
  ]
]

-- the places below n + 1, backwards
pub reverse-range_with_len : (n : ℕ) → reverse (range_with_len 0 (n + 1)) ≡ n ∷ reverse (range_with_len 0 n)
reverse-range_with_len n =
    ap reverse (sym (map-id (range_with_len 0 (n + 1))) ∙ map-range_with_len_more (λ x. x) 0 n n (omega arith) ∙ ap (λ xs. xs ++ n ∷ []) (map-id (range_with_len 0 n)))
    ∙ reverse-append (range_with_len 0 n) (n ∷ [])

-- j is the last place below n that passes
pub record IsLastBelow (p : ℕ → Bool) (n j : ℕ) : Type 0 where
  pub within : j < n
  pub passes : p j ≡ true
  pub after : (k : ℕ) → j < k → k < n → p k ≡ false

pub last_more : (p : ℕ → Bool) (n : ℕ) → find p (reverse (range_with_len 0 (n + 1))) ≡ cond (p n) (Some n) (find p (reverse (range_with_len 0 n)))
last_more p n = rw reverse-range_with_len refl

abbrev IsLastFound : (ℕ → Bool) → ℕ → Option ℕ → Type 0
IsLastFound p n found = MatchOption found ((k : ℕ) → k < n → p k ≡ false) (IsLastBelow p n)

last_here : (p : ℕ → Bool) (n : ℕ) → p n ≡ true → IsLastBelow p (suc n) n
last_here p n here = record { within = omega arith; passes = here; after = λ k past below. absurd (omega arith) }

below_next : (p : ℕ → Bool) (n : ℕ) → p n ≡ false → (k : ℕ) → (k < n → p k ≡ false) → k < suc n → p k ≡ false
below_next p n fails k before below = grind (arith, cases_eq k n, before)

last_fails : (p : ℕ → Bool) (n : ℕ) → p n ≡ false → (found : Option ℕ) → IsLastFound p n found → IsLastFound p (suc n) found
last_fails p n fails None none = λ k below. below_next p n fails k (none k) below
last_fails p n fails (Some j) last =
    record { within = omega (arith, last.within); passes = last.passes; after = λ k past below. below_next p n fails k (last.after k past) below }

last_step : (p : ℕ → Bool) (n : ℕ) (found : Option ℕ) → IsLastFound p n found → IsLastFound p (suc n) (cond (p n) (Some n) found)
last_step p n found before = elim (cases_Bool (p n)) [
  | inl here ↦ rw here (last_here p n here)
  | inr fails ↦ rw fails (last_fails p n fails found before)
]

pub last_found : (p : ℕ → Bool) (n : ℕ) → MatchOption (find p (reverse (range_with_len 0 n))) ((k : ℕ) → k < n → p k ≡ false) (IsLastBelow p n)
last_found p zero = λ k below. absurd (omega arith)
last_found p (suc n) =
    subst (IsLastFound p (suc n)) (sym (ap (λ m. find p (reverse (range_with_len 0 m))) (sym (add-one n)) ∙ last_more p n)) (last_step p n _ (last_found p n))

pub last_once : (p : ℕ → Bool) (n i j : ℕ) → IsLastBelow p n i → IsLastBelow p n j → i ≡ j
last_once p n i j one other = elim (cases_order i j) [
  | inl same ↦ same
  | inr differ ↦ elim differ [
    | inl less ↦ absurd (true≢false (sym other.passes ∙ one.after j less other.within))
    | inr more ↦ absurd (true≢false (sym one.passes ∙ other.after i more one.within))
  ]
]
