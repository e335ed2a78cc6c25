-- One repetition of an element after another, at the front of components that are in order.
use Rattle.std.proofs.Common.{◌≡◌, ℕ, zero, suc, ◌+◌, ◌<◌, ◌≤◌, eqb, Bool, true, false, ◌&&◌, ◌||◌, cond, List, [], ◌∷◌, length, refl, sym, ap, subst, ◌∙◌, inl, inr, arith}
use Rattle.std.proofs.Math.Nat.{le_refl}
use Rattle.std.proofs.lemmas.Bool.{and_parts, cases_Bool}
use Rattle.std.proofs.lemmas.Bool.Decides.{nat_tests}
use Rattle.std.specs.List.{list_any}
use Rattle.seg_lexer.specs.Fields.{Component, IsInOrder}
use Rattle.element_check.specs.Local.{last_repetition, repetitions_of, values_in}
use Rattle.element_check.specs.Repeated.{some_in}
use Rattle.element_check.specs.Streams.{AreOrdered, IsAtRepetition, after_front, after_run, front_run, is_next, is_of}
use Rattle.element_check.proofs.RepetitionLemmas.{any-among, any-below, any-map, eq-differs, eq-false, eq-is, last-here, of-another, of-other, values-here, values-none, values-other}

-- what is in order of elements and repetitions is in order of elements
pub ordered-in_order : (element r : ℕ) (xs : List Component) → AreOrdered element r xs → IsInOrder element xs
ordered-in_order element r [] order = tt
ordered-in_order element r (x ∷ xs) order = (order.0, ordered-in_order x.element x.repetition xs order.2)

pub ordered-more : (element r q : ℕ) (xs : List Component) → q ≤ r → AreOrdered element r xs → AreOrdered element q xs
ordered-more element r q [] less order = tt
ordered-more element r q (x ∷ xs) less order = (order.0, (λ is. let low = order.1 is in omega arith), order.2)

-- where the first component is of a repetition, none is of an earlier one
pub ordered-at : (element r : ℕ) (xs : List Component) → AreOrdered element 0 xs → IsAtRepetition element r xs → AreOrdered element r xs
ordered-at element r [] order here = tt
ordered-at element r (x ∷ xs) order here = (order.0, (λ is. let e = here is in omega arith), order.2)

-- the components after an element are of later ones
pub ordered-after : (element r : ℕ) (xs : List Component) → AreOrdered element r xs → AreOrdered (element + 1) 0 (after_front element xs)
ordered-after element r [] order = tt
ordered-after element r (x ∷ xs) order =
    let first = order.0 in
    elim (cases_Bool (eqb x.element element)) [
      | inl same ↦
          let is : x.element ≡ element = eq-is x.element element same in
          subst (λ b. AreOrdered (element + 1) 0 (cond b (after_front element xs) (x ∷ xs))) (sym same)
          (ordered-after element x.repetition xs (subst (λ (e : ℕ). AreOrdered e x.repetition xs) is order.2))
      | inr differs ↦
          let other : x.element ≡ element → ⊥ = eq-differs x.element element differs in
          subst (λ b. AreOrdered (element + 1) 0 (cond b (after_front element xs) (x ∷ xs))) (sym differs) (omega arith, (λ is. omega arith), order.2)
    ]

of-parts : (element r : ℕ) (x : Component) → is_of element r x ≡ true → (x.element ≡ element) × (x.repetition ≡ r)
of-parts element r x here =
    let parts = and_parts (eqb x.element element) (eqb x.repetition r) here in
    (eq-is x.element element parts.0, eq-is x.repetition r parts.1)

-- one that isn't of a repetition, though of its element, is of another
of-not : (a b : Bool) → (a && b) ≡ false → a ≡ true → b ≡ false
of-not true b none here = none
of-not false b none here = absurd (cc)

module _ (element r : ℕ) where
  -- what comes after a repetition is of later ones
  pub ordered-run : (xs : List Component) → AreOrdered element r xs → AreOrdered element (r + 1) (after_run element r xs)
  ordered-run [] order = tt
  ordered-run (x ∷ xs) order =
      let first = order.0 in
      elim (cases_Bool (is_of element r x)) [
        | inl here ↦
            let is = of-parts element r x here in
            subst (λ b. AreOrdered element (r + 1) (cond b (after_run element r xs) (x ∷ xs))) (sym here)
            (ordered-run xs (subst (λ (n : ℕ). AreOrdered element n xs) is.1 (subst (λ (e : ℕ). AreOrdered e x.repetition xs) is.0 order.2)))
        | inr other ↦
            subst (λ b. AreOrdered element (r + 1) (cond b (after_run element r xs) (x ∷ xs))) (sym other) (
              order.0,
              (λ is.
                  let low : r ≤ x.repetition = order.1 is in
                  let same : eqb x.element element ≡ true = grind (arith, nat_tests) in
                  let differs : x.repetition ≡ r → ⊥ = eq-differs x.repetition r (of-not (eqb x.element element) (eqb x.repetition r) other same) in
                  omega arith),
              order.2,
            )
      ]

  run-cond : (b : Bool) (x : Component) (xs : List Component) → length (after_run element r xs) ≤ length xs → length (cond b (after_run element r xs) (x ∷ xs)) ≤ suc (length xs)
  run-cond true x xs h = omega arith
  run-cond false x xs h = le_refl (suc (length xs))

  pub after_run-length : (xs : List Component) → length (after_run element r xs) ≤ length xs
  after_run-length [] = le_refl 0
  after_run-length (x ∷ xs) = run-cond (is_of element r x) x xs (after_run-length xs)

  pub after_run-front : (xs : List Component) → after_front element (after_run element r xs) ≡ after_front element xs
  after_run-front [] = refl
  after_run-front (x ∷ xs) = elim (cases_Bool (is_of element r x)) [
    | inl here ↦
        ap (λ b. after_front element (cond b (after_run element r xs) (x ∷ xs))) here ∙ after_run-front xs
        ∙ sym (ap (λ b. cond b (after_front element xs) (x ∷ xs)) (and_parts (eqb x.element element) (eqb x.repetition r) here).0)
    | inr other ↦ ap (λ b. after_front element (cond b (after_run element r xs) (x ∷ xs))) other
  ]

  pub after_run-last : (xs : List Component) → last_repetition (after_run element r xs) element ≤ last_repetition xs element
  after_run-last [] = le_refl 1
  after_run-last (x ∷ xs) =
      let later = after_run-last xs in
      elim (cases_Bool (is_of element r x)) [
        | inl here ↦
            let most = last-here x xs element (and_parts (eqb x.element element) (eqb x.repetition r) here).0 in
            subst (λ b. last_repetition (cond b (after_run element r xs) (x ∷ xs)) element ≤ last_repetition (x ∷ xs) element) (sym here) (omega arith)
        | inr other ↦
            subst (λ b. last_repetition (cond b (after_run element r xs) (x ∷ xs)) element ≤ last_repetition (x ∷ xs) element) (sym other) (le_refl (last_repetition (x ∷ xs) element))
      ]

  -- the other repetitions are as before
  pub run-others : (k : ℕ) (xs : List Component) → (k ≡ r → ⊥) → values_in xs element k ≡ values_in (after_run element r xs) element k
  run-others k [] differs = refl
  run-others k (x ∷ xs) differs = elim (cases_Bool (is_of element r x)) [
    | inl here ↦
        let is = of-parts element r x here in
        values-other x xs element k (of-another x xs element k (eq-false x.repetition k (λ e. differs (sym e ∙ is.1))))
        ∙ run-others k xs differs
        ∙ sym (ap (λ b. values_in (cond b (after_run element r xs) (x ∷ xs)) element k) here)
    | inr other ↦ sym (ap (λ b. values_in (cond b (after_run element r xs) (x ∷ xs)) element k) other)
  ]

-- no component is of a repetition before all that are left
pub values-before : (element q r : ℕ) (xs : List Component) → AreOrdered element q xs → r < q → values_in xs element r ≡ []
values-before element q r [] order less = refl
values-before element q r (x ∷ xs) order less =
    let first = order.0 in
    elim (cases_Bool (eqb x.element element)) [
      | inl same ↦
          let is : x.element ≡ element = eq-is x.element element same in
          let low : q ≤ x.repetition = order.1 is in
          values-other x xs element r (of-another x xs element r (eq-false x.repetition r (λ e. omega arith)))
          ∙ values-before element x.repetition r xs (subst (λ (e : ℕ). AreOrdered e x.repetition xs) is order.2) (omega arith)
      | inr differs ↦
          let other : x.element ≡ element → ⊥ = eq-differs x.element element differs in
          values-other x xs element r (of-other x xs element r differs)
          ∙ values-none x.element element r xs (ordered-in_order x.element x.repetition xs order.2) (omega arith)
    ]

-- the values of the repetition at the front are all of it
pub run-values : (element r : ℕ) (xs : List Component) → AreOrdered element r xs → values_in xs element r ≡ front_run element r xs
run-values element r [] order = refl
run-values element r (x ∷ xs) order = elim (cases_Bool (is_of element r x)) [
  | inl here ↦
      let is = of-parts element r x here in
      values-here x xs element r here
      ∙ ap (λ vs. x.octets ∷ vs) (run-values element r xs (subst (λ (n : ℕ). AreOrdered element n xs) is.1 (subst (λ (e : ℕ). AreOrdered e x.repetition xs) is.0 order.2)))
      ∙ sym (ap (λ b. cond b (x.octets ∷ front_run element r xs) []) here)
  | inr other ↦
      let after : AreOrdered element (r + 1) (x ∷ xs) = subst (λ b. AreOrdered element (r + 1) (cond b (after_run element r xs) (x ∷ xs))) other (ordered-run element r (x ∷ xs) order) in
      values-before element (r + 1) r (x ∷ xs) after (omega arith)
      ∙ sym (ap (λ b. cond b (x.octets ∷ front_run element r xs) []) other)
]

module _ (f : List (List ℕ) → Bool) (nothing : f [] ≡ false) (element r : ℕ) (xs : List Component) (order : AreOrdered element r xs) where
  abbrev before_run : ℕ → Bool
  before_run k = f (values_in xs element k)

  abbrev behind_run : ℕ → Bool
  behind_run k = f (values_in (after_run element r xs) element k)

  none-left : behind_run r ≡ false
  none-left = ap f (values-before element (r + 1) r (after_run element r xs) (ordered-run element r xs order) (omega arith)) ∙ nothing

  others-same : (k : ℕ) → (k ≡ r → ⊥) → before_run k ≡ behind_run k
  others-same k differs = ap f (run-others element r k xs differs)

  -- a repetition that isn't counted
  pub run-below : (first count : ℕ) → r < first → some_in f xs element first count ≡ some_in f (after_run element r xs) element first count
  run-below first count less = any-below before_run behind_run r others-same none-left first count less

  -- some repetition passes a test: the one at the front, or a later one
  pub run-some : (first count : ℕ) → first ≤ r → r < first + count → some_in f xs element first count ≡ (f (front_run element r xs) || some_in f (after_run element r xs) element first count)
  run-some first count low high =
      any-among before_run behind_run r others-same none-left first count low high
      ∙ ap (λ vs. f vs || some_in f (after_run element r xs) element first count) (run-values element r xs order)

-- where the next component belongs to an element, its repetition is among those of the element
pub next-last : (element r : ℕ) (xs : List Component) → is_next element xs ≡ true → IsAtRepetition element r xs → r ≤ last_repetition xs element
next-last element r [] next here = absurd (cc)
next-last element r (x ∷ xs) next here =
    let same = here (eq-is x.element element next) in
    let most = last-here x xs element next in
    omega arith

-- and taking that repetition takes a component
pub next-shorter : (element r : ℕ) (xs : List Component) → is_next element xs ≡ true → IsAtRepetition element r xs → length (after_run element r xs) < length xs
next-shorter element r [] next here = absurd (cc)
next-shorter element r (x ∷ xs) next here =
    let same : x.repetition ≡ r = here (eq-is x.element element next) in
    let one : eqb x.repetition r ≡ true = grind (arith, nat_tests) in
    let is : is_of element r x ≡ true = ap (λ b. b && eqb x.repetition r) next ∙ one in
    let fewer = after_run-length element r xs in
    subst (λ b. length (cond b (after_run element r xs) (x ∷ xs)) < suc (length xs)) (sym is) (omega arith)

module _ (element : ℕ) (xs : List Component) (order : AreOrdered element 0 xs) (past : is_next element xs ≡ false) where
  -- where it doesn't, the element has no component left
  past-order : (ys : List Component) → ys ≡ xs → IsInOrder (element + 1) ys
  past-order [] is = tt
  past-order (y ∷ ys) is =
      let here : AreOrdered element 0 (y ∷ ys) = subst (AreOrdered element 0) (sym is) order in
      let first = here.0 in
      let differs : y.element ≡ element → ⊥ = eq-differs y.element element (ap (is_next element) is ∙ past) in
      (omega arith, ordered-in_order y.element y.repetition ys here.2)

  pub past-values : (r : ℕ) → values_in xs element r ≡ []
  past-values r = values-none (element + 1) element r xs (past-order xs refl) (omega arith)

  pub past-some : (f : List (List ℕ) → Bool) → f [] ≡ false → (first count : ℕ) → some_in f xs element first count ≡ false
  past-some f nothing first zero = refl
  past-some f nothing first (suc count) = ap (λ b. b || some_in f xs element (first + 1) count) (ap f (past-values first) ∙ nothing) ∙ past-some f nothing (first + 1) count

past_front-by : (element : ℕ) (x : Component) (xs : List Component) → eqb x.element element ≡ false → after_front element (x ∷ xs) ≡ x ∷ xs
past_front-by element x xs differs = ap (λ b. cond b (after_front element xs) (x ∷ xs)) differs

pub past-front : (element : ℕ) (xs : List Component) → is_next element xs ≡ false → after_front element xs ≡ xs
past-front element [] past = refl
past-front element (x ∷ xs) past = past_front-by element x xs past

-- some repetition of an element passes a test
pub some-all : (f : List (List ℕ) → Bool) (xs : List Component) (element : ℕ) → list_any f (repetitions_of xs element) ≡ some_in f xs element 1 (last_repetition xs element)
some-all f xs element = any-map f (values_in xs element) 1 (last_repetition xs element)
