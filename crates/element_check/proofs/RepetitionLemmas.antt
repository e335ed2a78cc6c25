-- The repetitions of an element among the components of a segment.
use Rattle.std.proofs.Common.{◌≡◌, ℕ, zero, suc, ◌+◌, ◌-◌, ◌<◌, ◌≤◌, max, ltb, eqb, Bool, true, false, ◌&&◌, ◌||◌, cond, List, [], ◌∷◌, map, filter, refl, sym, ap, subst, ◌∙◌, inl, inr, arith}
use Rattle.std.proofs.lemmas.Bool.{and_parts, cases_Bool}
use Rattle.std.proofs.lemmas.Bool.Decides.{nat_tests}
use Rattle.std.specs.List.{list_all, list_any, range_with_len}
use Rattle.seg_lexer.specs.Fields.{Component, IsInOrder, are_single}
use Rattle.seg_lexer.proofs.OrderLemmas.{IsInOrder-lower}
use Rattle.element_check.specs.Local.{has_octet, is_used, last_repetition, repetitions_of, values_in}
use Rattle.element_check.specs.Streams.{after_front, front_values, is_filled_component, is_of}

-- the tests of two numbers
pub is-true : (a b : ℕ) → a < b → ltb a b ≡ true
is-true a b h = grind (arith, nat_tests)

pub is-false : (a b : ℕ) → b ≤ a → ltb a b ≡ false
is-false a b h = grind (arith, nat_tests)

pub eq-false : (a b : ℕ) → (a ≡ b → ⊥) → eqb a b ≡ false
eq-false a b h = grind (arith, nat_tests)

pub eq-above : (a b : ℕ) → b < a → eqb a b ≡ false
eq-above a b h = grind (arith, nat_tests)

pub eq-below : (a b : ℕ) → a < b → eqb a b ≡ false
eq-below a b h = grind (arith, nat_tests)

pub eq-true : (a b : ℕ) → a ≡ b → eqb a b ≡ true
eq-true a b h = grind (arith, nat_tests)

pub eq-is : (a b : ℕ) → eqb a b ≡ true → a ≡ b
eq-is a b h = grind (arith, nat_tests)

pub eq-differs : (a b : ℕ) → eqb a b ≡ false → a ≡ b → ⊥
eq-differs a b h = grind (arith, nat_tests)

-- the values of a repetition, by a test of the first component
abbrev values_by : Bool → Component → List Component → ℕ → ℕ → List (List ℕ)
values_by b x xs element r = map (λ x. x.octets) (cond b (x ∷ filter (is_of element r) xs) (filter (is_of element r) xs))

module _ (x : Component) (xs : List Component) (element r : ℕ) where
  pub values-here : is_of element r x ≡ true → values_in (x ∷ xs) element r ≡ x.octets ∷ values_in xs element r
  values-here here = ap (λ b. values_by b x xs element r) here

  pub values-other : is_of element r x ≡ false → values_in (x ∷ xs) element r ≡ values_in xs element r
  values-other other = ap (λ b. values_by b x xs element r) other

  pub of-other : eqb x.element element ≡ false → is_of element r x ≡ false
  of-other other = ap (λ b. b && eqb x.repetition r) other

  pub of-another : eqb x.repetition r ≡ false → is_of element r x ≡ false
  of-another other = elim (cases_Bool (eqb x.element element)) [
    | inl same ↦ ap (λ b. b && eqb x.repetition r) same ∙ other
    | inr differs ↦ of-other differs
  ]

  pub of-both : eqb x.element element ≡ true → eqb x.repetition r ≡ true → is_of element r x ≡ true
  of-both one two = ap (λ b. b && eqb x.repetition r) one ∙ two

-- the last repetition, by a test of the first component
module _ (x : Component) (xs : List Component) (element : ℕ) where
  pub last-here : eqb x.element element ≡ true → last_repetition (x ∷ xs) element ≡ max x.repetition (last_repetition xs element)
  last-here here = ap (λ b. cond b (max x.repetition (last_repetition xs element)) (last_repetition xs element)) here

  pub last-other : eqb x.element element ≡ false → last_repetition (x ∷ xs) element ≡ last_repetition xs element
  last-other other = ap (λ b. cond b (max x.repetition (last_repetition xs element)) (last_repetition xs element)) other

map-each : {X Y : Type 0} (f g : X → Y) (xs : List X) → ((x : X) → f x ≡ g x) → map f xs ≡ map g xs
map-each f g [] same = refl
map-each f g (x ∷ xs) same = ap (λ y. y ∷ map f xs) (same x) ∙ ap (λ ys. g x ∷ ys) (map-each f g xs same)

-- components with the same values in each repetition, and the same last one, have the same repetitions
pub repetitions-same : (xs ys : List Component) (element : ℕ) → ((r : ℕ) → values_in xs element r ≡ values_in ys element r) → last_repetition xs element ≡ last_repetition ys element → repetitions_of xs element ≡ repetitions_of ys element
repetitions-same xs ys element values last =
    map-each (values_in xs element) (values_in ys element) (range_with_len 1 (last_repetition xs element)) values
    ∙ ap (λ (n : ℕ). map (values_in ys element) (range_with_len 1 n)) last

pub map-range : {Y : Type 0} (f g : ℕ → Y) (first len : ℕ) → ((k : ℕ) → first ≤ k → f k ≡ g k) → map f (range_with_len first len) ≡ map g (range_with_len first len)
map-range f g first zero same = refl
map-range f g first (suc len) same =
    ap (λ y. y ∷ map f (range_with_len (first + 1) len)) (same first (omega arith))
    ∙ ap (λ ys. g first ∷ ys) (map-range f g (first + 1) len (λ k le. same k (omega arith)))

-- the same where this holds of the repetitions from 1 on
pub repetitions-from : (xs ys : List Component) (element : ℕ) → ((r : ℕ) → 1 ≤ r → values_in xs element r ≡ values_in ys element r) → last_repetition xs element ≡ last_repetition ys element → repetitions_of xs element ≡ repetitions_of ys element
repetitions-from xs ys element values last =
    map-range (values_in xs element) (values_in ys element) 1 (last_repetition xs element) values
    ∙ ap (λ (n : ℕ). map (values_in ys element) (range_with_len 1 n)) last

-- an element below all that are left has no component there
pub values-none : (low element r : ℕ) (xs : List Component) → IsInOrder low xs → element < low → values_in xs element r ≡ []
values-none low element r [] order less = refl
values-none low element r (x ∷ xs) order less =
    let first = order.0 in
    let later : element < x.element = omega arith in
    values-other x xs element r (of-other x xs element r (eq-above x.element element later)) ∙ values-none x.element element r xs order.1 later

-- what comes after an element has the repetitions of the others
after-values : (element other r : ℕ) (xs : List Component) → element < other → values_in (after_front element xs) other r ≡ values_in xs other r
after-values element other r [] less = refl
after-values element other r (x ∷ xs) less = elim (cases_Bool (eqb x.element element)) [
  | inl same ↦
      let is : x.element ≡ element = eq-is x.element element same in
      ap (λ b. values_in (cond b (after_front element xs) (x ∷ xs)) other r) same
      ∙ after-values element other r xs less
      ∙ sym (values-other x xs other r (of-other x xs other r (eq-below x.element other (omega arith))))
  | inr differs ↦ ap (λ b. values_in (cond b (after_front element xs) (x ∷ xs)) other r) differs
]

after-last_repetition : (element other : ℕ) (xs : List Component) → element < other → last_repetition (after_front element xs) other ≡ last_repetition xs other
after-last_repetition element other [] less = refl
after-last_repetition element other (x ∷ xs) less = elim (cases_Bool (eqb x.element element)) [
  | inl same ↦
      let is : x.element ≡ element = eq-is x.element element same in
      ap (λ b. last_repetition (cond b (after_front element xs) (x ∷ xs)) other) same
      ∙ after-last_repetition element other xs less
      ∙ sym (last-other x xs other (eq-below x.element other (omega arith)))
  | inr differs ↦ ap (λ b. last_repetition (cond b (after_front element xs) (x ∷ xs)) other) differs
]

pub after-repetitions : (element other : ℕ) (xs : List Component) → element < other → repetitions_of (after_front element xs) other ≡ repetitions_of xs other
after-repetitions element other xs less =
    repetitions-same (after_front element xs) xs other (λ r. after-values element other r xs less) (after-last_repetition element other xs less)

-- where nothing is repeated, an element has one repetition: its values at the front
pub front-is : (element : ℕ) (xs : List Component) → IsInOrder element xs → are_single xs ≡ true → front_values element xs ≡ values_in xs element 1
front-is element [] order single = refl
front-is element (x ∷ xs) order single =
    let first = order.0 in
    let parts = and_parts (eqb x.repetition 1) (are_single xs) single in
    elim (cases_Bool (eqb x.element element)) [
      | inl same ↦
          let is : x.element ≡ element = eq-is x.element element same in
          ap (λ b. cond b (x.octets ∷ front_values element xs) []) same
          ∙ ap (λ vs. x.octets ∷ vs) (front-is element xs (IsInOrder-lower element x.element xs (omega arith) order.1) parts.1)
          ∙ sym (values-here x xs element 1 (of-both x xs element 1 same parts.0))
      | inr other ↦
          let differs : x.element ≡ element → ⊥ = eq-differs x.element element other in
          let later : element < x.element = omega arith in
          ap (λ b. cond b (x.octets ∷ front_values element xs) []) other
          ∙ sym (values-none x.element element 1 xs order.1 later)
          ∙ sym (values-other x xs element 1 (of-other x xs element 1 other))
    ]

last-single : (element : ℕ) (xs : List Component) → are_single xs ≡ true → last_repetition xs element ≡ 1
last-single element [] single = refl
last-single element (x ∷ xs) single =
    let parts = and_parts (eqb x.repetition 1) (are_single xs) single in
    let one : x.repetition ≡ 1 = eq-is x.repetition 1 parts.0 in
    let later = last-single element xs parts.1 in
    elim (cases_Bool (eqb x.element element)) [
      | inl same ↦ last-here x xs element same ∙ omega arith
      | inr other ↦ last-other x xs element other ∙ later
    ]

pub repetitions-single : (element : ℕ) (xs : List Component) → IsInOrder element xs → are_single xs ≡ true → repetitions_of xs element ≡ front_values element xs ∷ []
repetitions-single element xs order single =
    ap (λ (n : ℕ). map (values_in xs element) (range_with_len 1 n)) (last-single element xs single)
    ∙ ap (λ vs. vs ∷ []) (sym (front-is element xs order single))

-- what comes after an element isn't repeated where nothing is
pub after-single : (element : ℕ) (xs : List Component) → are_single xs ≡ true → are_single (after_front element xs) ≡ true
after-single element [] single = refl
after-single element (x ∷ xs) single =
    let parts = and_parts (eqb x.repetition 1) (are_single xs) single in
    elim (cases_Bool (eqb x.element element)) [
      | inl same ↦ ap (λ b. are_single (cond b (after_front element xs) (x ∷ xs))) same ∙ after-single element xs parts.1
      | inr differs ↦ ap (λ b. are_single (cond b (after_front element xs) (x ∷ xs))) differs ∙ single
    ]

-- of the numbers from `first` on, one is r, where it is among them
below-none : (g : ℕ → Bool) (first len : ℕ) → ((k : ℕ) → first ≤ k → g k ≡ false) → list_any g (range_with_len first len) ≡ false
below-none g first zero none = refl
below-none g first (suc len) none =
    ap (λ b. b || list_any g (range_with_len (first + 1) len)) (none first (omega arith))
    ∙ below-none g (first + 1) len (λ k le. none k (omega arith))

pub any-same : (g h : ℕ → Bool) (first len : ℕ) → ((k : ℕ) → first ≤ k → g k ≡ h k) → list_any g (range_with_len first len) ≡ list_any h (range_with_len first len)
any-same g h first zero same = refl
any-same g h first (suc len) same =
    ap (λ b. b || list_any g (range_with_len (first + 1) len)) (same first (omega arith))
    ∙ ap (λ b. h first || b) (any-same g h (first + 1) len (λ k le. same k (omega arith)))

or-swap : (a b c : Bool) → (a || (b || c)) ≡ (b || (a || c))
or-swap true true c = refl
or-swap true false c = refl
or-swap false b c = refl

pub or-join : (a b c : Bool) → ((a || b) || c) ≡ (a || (b || c))
or-join true b c = refl
or-join false b c = refl

-- two tests that differ at one number alone, which the second refuses
module _ (g h : ℕ → Bool) (r : ℕ) (same : (k : ℕ) → (k ≡ r → ⊥) → g k ≡ h k) (none : h r ≡ false) where
  pub any-below : (first len : ℕ) → r < first → list_any g (range_with_len first len) ≡ list_any h (range_with_len first len)
  any-below first len less = any-same g h first len (λ k le. same k (λ is. omega arith))

  pub any-among : (first len : ℕ) → first ≤ r → r < first + len → list_any g (range_with_len first len) ≡ (g r || list_any h (range_with_len first len))
  any-among first zero low high = absurd (omega arith)
  any-among first (suc len) low high = elim (cases_Bool (eqb first r)) [
    | inl here ↦
        let is : first ≡ r = eq-is first r here in
        subst (λ (n : ℕ). (g n || list_any g (range_with_len (n + 1) len)) ≡ (g r || (h n || list_any h (range_with_len (n + 1) len)))) (sym is)
        (ap (λ b. g r || b) (any-same g h (r + 1) len (λ k le. same k (λ e. omega arith)))
        ∙ sym (ap (λ b. g r || (b || list_any h (range_with_len (r + 1) len))) none))
    | inr differs ↦
        let other : first ≡ r → ⊥ = eq-differs first r differs in
        ap (λ b. b || list_any g (range_with_len (first + 1) len)) (same first other)
        ∙ ap (λ b. h first || b) (any-among (first + 1) len (omega arith) (omega arith))
        ∙ or-swap (h first) (g r) (list_any h (range_with_len (first + 1) len))
  ]

pub any-map : {X : Type 0} (f : X → Bool) (g : ℕ → X) (first len : ℕ) → list_any f (map g (range_with_len first len)) ≡ list_any (λ k. f (g k)) (range_with_len first len)
any-map f g first zero = refl
any-map f g first (suc len) = ap (λ b. f (g first) || b) (any-map f g (first + 1) len)

-- a component of an element is filled
abbrev pub any_filled : ℕ → List Component → Bool
any_filled element xs = list_any (λ x. eqb x.element element && is_filled_component x) xs

module _ (x : Component) (xs : List Component) (element : ℕ) where
  used-here : (r : ℕ) → is_of element r x ≡ true → is_used (values_in (x ∷ xs) element r) ≡ (has_octet x.octets || is_used (values_in xs element r))
  used-here r here = ap is_used (values-here x xs element r here)

-- the values of a repetition are used, of those of one component and others
module _ (x : Component) (xs : List Component) (element : ℕ) (here : eqb x.element element ≡ true) where
  abbrev used_in : ℕ → Bool
  used_in r = is_used (values_in (x ∷ xs) element r)

  abbrev used_later : ℕ → Bool
  used_later r = is_used (values_in xs element r)

  differs-not : (k : ℕ) → (k ≡ x.repetition → ⊥) → used_in k ≡ used_later k
  differs-not k other = ap is_used (values-other x xs element k (of-another x xs element k (eq-false x.repetition k (λ is. other (sym is)))))

  at-own : used_in x.repetition ≡ (has_octet x.octets || used_later x.repetition)
  at-own = used-here x xs element x.repetition (of-both x xs element x.repetition here (eq-true x.repetition x.repetition refl))

  used-put : (first len : ℕ) → first ≤ x.repetition → x.repetition < first + len → list_any used_in (range_with_len first len) ≡ (has_octet x.octets || list_any used_later (range_with_len first len))
  used-put first zero low high = absurd (omega arith)
  used-put first (suc len) low high = elim (cases_Bool (eqb first x.repetition)) [
    | inl same ↦
        let is : first ≡ x.repetition = eq-is first x.repetition same in
        ap (λ (n : ℕ). used_in n || list_any used_in (range_with_len (first + 1) len)) is
        ∙ ap (λ b. b || list_any used_in (range_with_len (first + 1) len)) at-own
        ∙ ap (λ b. (has_octet x.octets || used_later x.repetition) || b) (any-same used_in used_later (first + 1) len (λ k le. differs-not k (λ e. omega arith)))
        ∙ or-join (has_octet x.octets) (used_later x.repetition) (list_any used_later (range_with_len (first + 1) len))
        ∙ ap (λ (n : ℕ). has_octet x.octets || (used_later n || list_any used_later (range_with_len (first + 1) len))) (sym is)
    | inr other ↦
        let differs : first ≡ x.repetition → ⊥ = eq-differs first x.repetition other in
        ap (λ b. b || list_any used_in (range_with_len (first + 1) len)) (differs-not first differs)
        ∙ ap (λ b. used_later first || b) (used-put (first + 1) len (omega arith) (omega arith))
        ∙ or-swap (used_later first) (has_octet x.octets) (list_any used_later (range_with_len (first + 1) len))
  ]

  used-skip : (first len : ℕ) → x.repetition < first → list_any used_in (range_with_len first len) ≡ list_any used_later (range_with_len first len)
  used-skip first len less = any-same used_in used_later first len (λ k le. differs-not k (λ is. omega arith))

used-none : (element first len : ℕ) → list_any (λ r. is_used (values_in [] element r)) (range_with_len first len) ≡ false
used-none element first zero = refl
used-none element first (suc len) = used-none element (first + 1) len

-- some repetition of an element is used where a component of it is filled
pub used-within : (element n : ℕ) (xs : List Component) → last_repetition xs element ≤ n → list_any (λ r. is_used (values_in xs element r)) (range_with_len 1 n) ≡ any_filled element xs
used-within element n [] le = used-none element 1 n
used-within element n (x ∷ xs) le = elim (cases_Bool (eqb x.element element)) [
  | inl here ↦
      let most : last_repetition (x ∷ xs) element ≡ max x.repetition (last_repetition xs element) = last-here x xs element here in
      let later = used-within element n xs (omega arith) in
      elim (cases_Bool (ltb 0 x.repetition)) [
        | inl numbered ↦
            let least : 0 < x.repetition = grind (arith, nat_tests) in
            used-put x xs element here 1 n (omega arith) (omega arith)
            ∙ ap (λ b. has_octet x.octets || b) later
            ∙ sym (ap (λ b. (b && is_filled_component x) || any_filled element xs) here ∙ ap (λ b. (b && has_octet x.octets) || any_filled element xs) numbered)
        | inr unnumbered ↦
            let none : x.repetition < 1 = grind (arith, nat_tests) in
            used-skip x xs element here 1 n none ∙ later
            ∙ sym (ap (λ b. (b && is_filled_component x) || any_filled element xs) here ∙ ap (λ b. (b && has_octet x.octets) || any_filled element xs) unnumbered)
      ]
  | inr other ↦
      let most : last_repetition (x ∷ xs) element ≡ last_repetition xs element = last-other x xs element other in
      any-same (λ r. is_used (values_in (x ∷ xs) element r)) (λ r. is_used (values_in xs element r)) 1 n (λ k le. ap is_used (values-other x xs element k (of-other x xs element k other)))
      ∙ used-within element n xs (omega arith)
      ∙ sym (ap (λ b. (b && is_filled_component x) || any_filled element xs) other)
]

pub used-any : (element : ℕ) (xs : List Component) → list_any is_used (repetitions_of xs element) ≡ any_filled element xs
used-any element xs = any-map is_used (values_in xs element) 1 (last_repetition xs element) ∙ used-within element (last_repetition xs element) xs (omega arith)

-- an element has a first repetition
pub last-some : (xs : List Component) (element : ℕ) → 1 ≤ last_repetition xs element
last-some [] element = omega arith
last-some (x ∷ xs) element =
    let later = last-some xs element in
    elim (cases_Bool (eqb x.element element)) [
      | inl here ↦ let is = last-here x xs element here in omega arith
      | inr other ↦ let is = last-other x xs element other in omega arith
    ]

some-from : (n : ℕ) (f : ℕ → List (List ℕ)) → 1 ≤ n → list_all (λ values. false) (map f (range_with_len 1 n)) ≡ false
some-from zero f least = absurd (omega arith)
some-from (suc n) f least = refl

pub repetitions-some : (xs : List Component) (element : ℕ) → list_all (λ values. false) (repetitions_of xs element) ≡ false
repetitions-some xs element = some-from (last_repetition xs element) (values_in xs element) (last-some xs element)

-- the first repetition of an element, and the later ones
abbrev pub later_repetitions : List Component → ℕ → List (List (List ℕ))
later_repetitions xs element = map (values_in xs element) (range_with_len 2 (last_repetition xs element - 1))

from-one : (n : ℕ) (f : ℕ → List (List ℕ)) → 1 ≤ n → map f (range_with_len 1 n) ≡ f 1 ∷ map f (range_with_len 2 (n - 1))
from-one zero f least = absurd (omega arith)
from-one (suc n) f least = let less : n ≡ suc n - 1 = omega arith in ap (λ (m : ℕ). f 1 ∷ map f (range_with_len 2 m)) less

pub repetitions-all : (element : ℕ) (xs : List Component) → repetitions_of xs element ≡ values_in xs element 1 ∷ later_repetitions xs element
repetitions-all element xs = from-one (last_repetition xs element) (values_in xs element) (last-some xs element)
