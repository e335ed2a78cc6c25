-- What a search over a stretch of places finds.
use Rattle.std.proofs.Common.{◌≡◌, ℕ, zero, suc, ◌+◌, ◌<◌, ◌≤◌, Bool, true, false, cond, List, [], ◌∷◌, ◌&&◌, Option, Some, None, refl, ap, ◌∙◌, inl, inr, arith}
use Rattle.std.specs.Prelude.{find, MatchOption}
use Rattle.std.specs.Option.{option_map}
use Rattle.std.specs.List.{range_with_len, filter_map}
use Rattle.std.proofs.lemmas.Bool.{cases_Bool, cases_eq}

-- j is the first place from a on and below b that passes
pub record IsFirst (p : ℕ → Bool) (a b j : ℕ) : Type 0 where
  pub from : a ≤ j
  pub below : j < b
  pub passes : p j ≡ true
  pub none : (k : ℕ) → a ≤ k → k < j → p k ≡ false

pub record IsNone (p : ℕ → Bool) (a b : ℕ) : Type 0 where
  pub none : (k : ℕ) → a ≤ k → k < b → p k ≡ false

abbrev pub Found : (ℕ → Bool) → ℕ → ℕ → Option ℕ → Type 0
Found p a b found = MatchOption found (IsNone p a b) (IsFirst p a b)

none_more : (p : ℕ → Bool) (a j k : ℕ) → p a ≡ false → ((k : ℕ) → a + 1 ≤ k → k < j → p k ≡ false) → a ≤ k → k < j → p k ≡ false
none_more p a j k fails none from below = grind (arith, cases_eq a k, none k)

found_later : (p : ℕ → Bool) (a b : ℕ) (r : Option ℕ) → p a ≡ false → Found p (a + 1) b r → Found p a b r
found_later p a b None fails later = record { none = λ k. none_more p a b k fails later.none }
found_later p a b (Some j) fails later =
    record { from = omega (arith, later.from); below = later.below; passes = later.passes; none = λ k. none_more p a j k fails later.none }

pub found : (p : ℕ → Bool) (a n b : ℕ) → a + n ≡ b → Found p a b (find p (range_with_len a n))
found p a zero b sum = record { none = λ k from below. absurd (omega arith) }
found p a (suc n) b sum = elim (cases_Bool (p a)) [
  | inl here ↦ rw here (record { from = omega arith; below = omega arith; passes = here; none = λ k from below. absurd (omega arith) })
  | inr fails ↦ rw fails (found_later p a b _ fails (found p (a + 1) n b (omega arith)))
]

-- the first place is found
pub find_is : (p : ℕ → Bool) (a n b j : ℕ) → a + n ≡ b → IsFirst p a b j → find p (range_with_len a n) ≡ Some j
find_is p a zero b j sum first = absurd (omega (arith, first.from, first.below))
find_is p a (suc n) b j sum first = elim (cases_eq a j) [
  | inl same ↦ rw (ap p same ∙ first.passes) (ap Some same)
  | inr other ↦
      rw (first.none a (omega arith) (omega (arith, first.from)))
      (find_is p (a + 1) n b j (omega arith)
      (record { from = omega (arith, first.from); below = first.below; passes = first.passes; none = λ k from below. first.none k (omega arith) below }))
]

-- where no place passes, none is found
pub find_none : (p : ℕ → Bool) (a n b : ℕ) → a + n ≡ b → IsNone p a b → find p (range_with_len a n) ≡ None
find_none p a zero b sum none = refl
find_none p a (suc n) b sum none =
    rw (none.none a (omega arith) (omega arith))
    (find_none p (a + 1) n b (omega arith) (record { none = λ k from below. none.none k (omega arith) below }))

-- a search among what some places give is one among these places
pub find_given : {E : Type 0} (o : ℕ → Bool) (e : ℕ → E) (p : E → Bool) (xs : List ℕ) → find p (filter_map (λ b. cond (o b) (Some (e b)) None) xs) ≡ option_map e (find (λ b. o b && p (e b)) xs)
find_given o e p [] = refl
find_given o e p (x ∷ xs) = elim (cases_Bool (o x)) [
  | inl here ↦ elim (cases_Bool (p (e x))) [
    | inl passes ↦ rw (here, passes) refl
    | inr fails ↦ rw (here, fails) (find_given o e p xs)
  ]
  | inr never ↦ rw never (find_given o e p xs)
]
