-- The places of a range that pass a test.
use Rattle.std.proofs.Common.{◌≡◌, ℕ, zero, suc, ◌+◌, ◌-◌, ◌<◌, ◌≤◌, ◌⊎◌, Bool, true, false, cond, List, [], ◌∷◌, length, Option, Some, None, refl, sym, ap, ◌∙◌, subst, inl, inr, arith}
use Rattle.std.specs.List.{filter, range_with_len, slice_get}
use Rattle.std.specs.Prelude.{map}
use Rattle.std.proofs.lemmas.Bool.{cond_both, false_from_ne_true, cases_Bool, cond-true, cond-false, both_ways}
use Rattle.memchr.specs.Find.{IsFirst, Nowhere}
use Rattle.seg_lexer.specs.Stretch.{places_that}

-- place `from` is the range's start, or the place after one of it that passes
pub record IsStart (p : ℕ → Bool) (a n from : ℕ) : Type 0 where
  pub low : a ≤ from
  pub high : from ≤ a + n
  pub after : (from ≡ a) ⊎ ((e : ℕ) × (p e ≡ true) × (a ≤ e) × (e + 1 ≡ from))

-- where a stretch may begin: the range's start, and the place after each one that passes
abbrev pub starts_of : (ℕ → Bool) → ℕ → ℕ → List ℕ
starts_of p a n = a ∷ map (λ e. e + 1) (filter p (range_with_len a n))

module _ (p : ℕ → Bool) (a n : ℕ) where
  pub filter-pass : p a ≡ true → filter p (range_with_len a (suc n)) ≡ a ∷ filter p (range_with_len (a + 1) n)
  filter-pass h = cond-true (p a) _ _ h

  pub filter-fail : p a ≡ false → filter p (range_with_len a (suc n)) ≡ filter p (range_with_len (a + 1) n)
  filter-fail h = cond-false (p a) _ _ h

-- what holds of the first, and of each later one, holds of a member
at_cons : (P : ℕ → Type 0) (xs : List ℕ) (a k e : ℕ) → slice_get (a ∷ xs) k ≡ Some e → P a → ((k : ℕ) → slice_get xs k ≡ Some e → P e) → P e
at_cons P xs a zero e h first later = let same : a ≡ e = cc in subst P same first
at_cons P xs a (suc k) e h first later = later k h

-- a place that a filter kept passes, and lies in the range
pub filtered-at : (p : ℕ → Bool) (a n k e : ℕ) → slice_get (filter p (range_with_len a n)) k ≡ Some e → (p e ≡ true) × (a ≤ e) × (e < a + n)
filtered-at p a zero k e h = absurd (cc)
filtered-at p a (suc n) k e h =
    let further : (k : ℕ) → slice_get (filter p (range_with_len (a + 1) n)) k ≡ Some e → (p e ≡ true) × (a ≤ e) × (e < a + suc n) = λ k h.
    let f = filtered-at p (a + 1) n k e h in let low = f.1 in let high = f.2 in (f.0, omega arith, omega arith) in
    elim (cases_Bool (p a)) [
      | inl passes ↦ at_cons (λ x. (p x ≡ true) × (a ≤ x) × (x < a + suc n)) _ a k e (sym (ap (λ (xs : List ℕ). slice_get xs k) (filter-pass p a n passes)) ∙ h) (passes, omega arith, omega arith) further
      | inr fails ↦ further k (sym (ap (λ (xs : List ℕ). slice_get xs k) (filter-fail p a n fails)) ∙ h)
    ]

from_map : (xs : List ℕ) (k from : ℕ) → slice_get (map (λ e. e + 1) xs) k ≡ Some from → (e : ℕ) × (slice_get xs k ≡ Some e) × (e + 1 ≡ from)
from_map [] k from h = absurd (cc)
from_map (x ∷ xs) zero from h = (x, refl, cc)
from_map (x ∷ xs) (suc k) from h = from_map xs k from h

-- what a start is
pub start-at : (p : ℕ → Bool) (a n k from : ℕ) → slice_get (starts_of p a n) k ≡ Some from → IsStart p a n from
start-at p a n zero from h = let same : a ≡ from = cc in record { low = omega arith; high = omega arith; after = inl (sym same) }
start-at p a n (suc k) from h =
    let found = from_map (filter p (range_with_len a n)) k from h in
    let e = found.0 in
    let next = found.2 in
    let at = filtered-at p a n k e found.1 in
    let low = at.1 in
    let high = at.2 in
    record { low = omega arith; high = omega arith; after = inr (e, at.0, at.1, next) }

-- a search that ends after the range's start goes on from the next place
later-first : (p : ℕ → Bool) (a n : ℕ) (r : Option ℕ) → p a ≡ false → IsFirst (λ i. p i ≡ true) a (a + suc n) r → IsFirst (λ i. p i ≡ true) (a + 1) (a + 1 + n) r
later-first p a n None fails h = λ k low high. h k (omega arith) (omega arith)
later-first p a n (Some j) fails h =
    let before = h.0.before in
    let low = h.0.low in
    let high = h.0.high in
    let here = h.1 in
    let other : a ≡ j → ⊥ = λ e. both_ways (p j) (ap p (sym e) ∙ fails) here in
    (record { low = omega arith; high = omega arith; before = λ k l m. before k (omega arith) m }, here)

same-end : (P : ℕ → Type 0) (i j l : ℕ) (r : Option ℕ) → j ≡ l → IsFirst P i j r → IsFirst P i l r
same-end P i j l r e h = subst (λ (x : ℕ). IsFirst P i x r) e h

-- the first place from a passing start is that start
first-here : (p : ℕ → Bool) (a n : ℕ) (r : Option ℕ) → p a ≡ true → IsFirst (λ i. p i ≡ true) a (a + suc n) r → Some a ≡ r
first-here p a n None passes h = absurd (h a (omega arith) (omega arith) passes)
first-here p a n (Some j) passes h =
    let low = h.0.low in
    let before = h.0.before in
    let none : a < j → ⊥ = λ l. before a (omega arith) l passes in
    let same : a ≡ j = omega arith in
    ap Some same

nowhere-past : (P : ℕ → Type 0) (a : ℕ) (r : Option ℕ) → IsFirst P a (a + 0) r → None ≡ r
nowhere-past P a None h = refl
nowhere-past P a (Some j) h = let low = h.0.low in let high = h.0.high in absurd (omega arith)

module _ (p : ℕ → Bool) (a n : ℕ) (r : Option ℕ) (xs : List ℕ)
    (later : (k from : ℕ) → slice_get ((a + 1) ∷ map (λ e. e + 1) xs) k ≡ Some from → IsFirst (λ i. p i ≡ true) from (a + 1 + n) r → slice_get xs k ≡ r) where
  end-pass : (k from : ℕ) → p a ≡ true → slice_get (a ∷ map (λ e. e + 1) (a ∷ xs)) k ≡ Some from → IsFirst (λ i. p i ≡ true) from (a + suc n) r → slice_get (a ∷ xs) k ≡ r
  end-pass zero from passes h first =
      let same : from ≡ a = cc in
      first-here p a n r passes (subst (λ (x : ℕ). IsFirst (λ i. p i ≡ true) x (a + suc n) r) same first)
  end-pass (suc k) from passes h first = later k from h (same-end (λ i. p i ≡ true) from (a + suc n) (a + 1 + n) r (omega arith) first)

  end-fail : (k from : ℕ) → p a ≡ false → slice_get (a ∷ map (λ e. e + 1) xs) k ≡ Some from → IsFirst (λ i. p i ≡ true) from (a + suc n) r → slice_get xs k ≡ r
  end-fail zero from fails h first =
      let same : from ≡ a = cc in
      later 0 (a + 1) refl (later-first p a n r fails (subst (λ (x : ℕ). IsFirst (λ i. p i ≡ true) x (a + suc n) r) same first))
  end-fail (suc k) from fails h first = later (suc k) from h (same-end (λ i. p i ≡ true) from (a + suc n) (a + 1 + n) r (omega arith) first)

-- the first place from start k on that passes is the k-th of those that pass
pub end-at : (p : ℕ → Bool) (a n k from : ℕ) (r : Option ℕ) → slice_get (starts_of p a n) k ≡ Some from → IsFirst (λ i. p i ≡ true) from (a + n) r → slice_get (filter p (range_with_len a n)) k ≡ r
end-at p a zero zero from r h first = let same : from ≡ a = cc in nowhere-past (λ i. p i ≡ true) a r (subst (λ (x : ℕ). IsFirst (λ i. p i ≡ true) x (a + 0) r) same first)
end-at p a zero (suc k) from r h first = absurd (cc)
end-at p a (suc n) k from r h first =
    let xs : List ℕ = filter p (range_with_len (a + 1) n) in
    let later : (k from : ℕ) → slice_get ((a + 1) ∷ map (λ e. e + 1) xs) k ≡ Some from → IsFirst (λ i. p i ≡ true) from (a + 1 + n) r → slice_get xs k ≡ r = λ k from h first. end-at p (a + 1) n k from r h first in
    let start : (ys : List ℕ) → filter p (range_with_len a (suc n)) ≡ ys → slice_get (a ∷ map (λ e. e + 1) ys) k ≡ Some from = λ ys e. sym (ap (λ (zs : List ℕ). slice_get (a ∷ map (λ e. e + 1) zs) k) e) ∙ h in
    elim (cases_Bool (p a)) [
      | inl passes ↦ ap (λ (zs : List ℕ). slice_get zs k) (filter-pass p a n passes) ∙ end-pass p a n r xs later k from passes (start _ (filter-pass p a n passes)) first
      | inr fails ↦ ap (λ (zs : List ℕ). slice_get zs k) (filter-fail p a n fails) ∙ end-fail p a n r xs later k from fails (start _ (filter-fail p a n fails)) first
    ]

-- a map over a list that may begin with one more
pub map-cond : (f : ℕ → ℕ) (b : Bool) (x : ℕ) (xs : List ℕ) → map f (cond b (x ∷ xs) xs) ≡ cond b (f x ∷ map f xs) (map f xs)
map-cond f true x xs = refl
map-cond f false x xs = refl

-- two tests that agree on a range keep the same places of it
pub filter-agree : (p q : ℕ → Bool) (a n : ℕ) → ((i : ℕ) → a ≤ i → i < a + n → p i ≡ q i) → filter p (range_with_len a n) ≡ filter q (range_with_len a n)
filter-agree p q a zero same = refl
filter-agree p q a (suc n) same =
    ap (λ (b : Bool). cond b (a ∷ filter p (range_with_len (a + 1) n)) (filter p (range_with_len (a + 1) n))) (same a (omega arith) (omega arith))
    ∙ ap (λ (xs : List ℕ). cond (q a) (a ∷ xs) xs) (filter-agree p q (a + 1) n (λ i low high. same i (omega arith) (omega arith)))

-- what f gives at a place is what g gives at that place moved by a, and so is the test
pub record IsMoved (f g : ℕ → ℕ) (p q : ℕ → Bool) (a j n : ℕ) : Type 0 where
  pub value : (i : ℕ) → j ≤ i → i < j + n → f i ≡ g (a + i)
  pub test : (i : ℕ) → j ≤ i → i < j + n → p i ≡ q (a + i)

-- the same values are at the places that pass, once these are moved
pub map-filter-moved : (f g : ℕ → ℕ) (p q : ℕ → Bool) (a j n : ℕ) → IsMoved f g p q a j n → map f (filter p (range_with_len j n)) ≡ map g (filter q (range_with_len (a + j) n))
map-filter-moved f g p q a j zero moved = refl
map-filter-moved f g p q a j (suc n) moved =
    let next : a + (j + 1) ≡ a + j + 1 = omega arith in
    let later : map f (filter p (range_with_len (j + 1) n)) ≡ map g (filter q (range_with_len (a + j + 1) n)) =
    map-filter-moved f g p q a (j + 1) n (record { value = λ i low high. moved.value i (omega arith) (omega arith); test = λ i low high. moved.test i (omega arith) (omega arith) })
    ∙ ap (λ (k : ℕ). map g (filter q (range_with_len k n))) next in
    map-cond f (p j) j (filter p (range_with_len (j + 1) n))
    ∙ (ap (λ (b : Bool). cond b (f j ∷ map f (filter p (range_with_len (j + 1) n))) (map f (filter p (range_with_len (j + 1) n)))) (moved.test j (omega arith) (omega arith))
    ∙ (ap (λ (x : ℕ). cond (q (a + j)) (x ∷ map f (filter p (range_with_len (j + 1) n))) (map f (filter p (range_with_len (j + 1) n)))) (moved.value j (omega arith) (omega arith))
    ∙ (ap (λ (xs : List ℕ). cond (q (a + j)) (g (a + j) ∷ xs) xs) later ∙ sym (map-cond g (q (a + j)) (a + j) (filter q (range_with_len (a + j + 1) n))))))

-- a filter keeps no more than there is
pub length-filter-le : (p : ℕ → Bool) (xs : List ℕ) → length (filter p xs) ≤ length xs
length-filter-le p [] = omega arith
length-filter-le p (x ∷ xs) =
    let le : length (filter p xs) ≤ length xs = length-filter-le p xs in
    cond_both (p x) (x ∷ filter p xs) (filter p xs) (λ (ys : List ℕ). length ys ≤ suc (length xs)) (λ _. omega arith) (λ _. omega arith)

-- places that don't pass may be left out in front
pub filter-later : (p : ℕ → Bool) (a n m : ℕ) → Nowhere (λ i. p i ≡ true) a (a + n) → filter p (range_with_len a (n + m)) ≡ filter p (range_with_len (a + n) m)
filter-later p a zero m none =
    let less : zero + m ≡ m = omega arith in
    let same : a + zero ≡ a = omega arith in
    ap (λ (k : ℕ). filter p (range_with_len a k)) less ∙ sym (ap (λ (j : ℕ). filter p (range_with_len j m)) same)
filter-later p a (suc n) m none =
    let one : suc n + m ≡ suc (n + m) = omega arith in
    let next : a + 1 + n ≡ a + suc n = omega arith in
    ap (λ (k : ℕ). filter p (range_with_len a k)) one
    ∙ (filter-fail p a (n + m) (false_from_ne_true (p a) (none a (omega arith) (omega arith)))
    ∙ (filter-later p (a + 1) n m (λ k low high. none k (omega arith) (omega arith)) ∙ ap (λ (j : ℕ). filter p (range_with_len j m)) next))

module _ (p : ℕ → Bool) (a b : ℕ) where
  unfolded : places_that p a b ≡ filter p (range_with_len a (b - a))
  unfolding places_that
  unfolded = refl

  -- none passes
  pub places_that-none : Nowhere (λ i. p i ≡ true) a b → places_that p a b ≡ []
  places_that-none none =
      let all : b - a ≡ (b - a) + 0 = omega arith in
      unfolded ∙ (ap (λ (n : ℕ). filter p (range_with_len a n)) all ∙ filter-later p a (b - a) 0 (λ k low high. none k low (omega arith)))

-- the first that passes lies in the range
pub places_that-within : (p : ℕ → Bool) (a b k : ℕ) → slice_get (places_that p a b) 0 ≡ Some k → a ≤ k
places_that-within p a b k found = (filtered-at p a (b - a) 0 k (sym (ap (λ (xs : List ℕ). slice_get xs 0) (unfolded p a b)) ∙ found)).1

module _ (p : ℕ → Bool) (a j b : ℕ) (low : a ≤ j) where
  -- none passes before place j
  pub places_that-later : j ≤ b → Nowhere (λ i. p i ≡ true) a j → places_that p a b ≡ places_that p j b
  places_that-later high none =
      let all : b - a ≡ (j - a) + (b - j) = omega arith in
      let to : a + (j - a) ≡ j = omega arith in
      unfolded p a b
      ∙ (ap (λ (n : ℕ). filter p (range_with_len a n)) all
      ∙ (filter-later p a (j - a) (b - j) (λ k low high. none k low (omega arith))
      ∙ (ap (λ (i : ℕ). filter p (range_with_len i (b - j))) to ∙ sym (unfolded p j b))))

  -- place j is the first that passes
  pub places_that-first : j < b → Nowhere (λ i. p i ≡ true) a j → p j ≡ true → places_that p a b ≡ j ∷ places_that p (j + 1) b
  places_that-first high none passes =
      let one : b - j ≡ suc (b - (j + 1)) = omega arith in
      places_that-later (omega arith) none
      ∙ (unfolded p j b
      ∙ (ap (λ (n : ℕ). filter p (range_with_len j n)) one
      ∙ (filter-pass p j (b - (j + 1)) passes ∙ ap (λ (xs : List ℕ). j ∷ xs) (sym (unfolded p (j + 1) b)))))
