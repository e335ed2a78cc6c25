-- A segment without a local error, of which no item may be repeated: its first repetitions alone have none either, and they
-- say all that it says.
use Rattle.std.proofs.Common.{◌≡◌, ℕ, zero, suc, ◌+◌, ◌-◌, ◌≤◌, max, eqb, Bool, true, false, ◌&&◌, ◌||◌, cond, not, List, [], ◌∷◌, ◌++◌, map, filter, drop, length, refl, sym, ap, ◌∙◌, inl, inr, arith}
use Rattle.std.proofs.lemmas.Bool.{and_parts, and_from, both_ways, cases_Bool, or_parts}
use Rattle.std.proofs.lemmas.Option.{same_Some}
use Rattle.std.specs.Prelude.{Option, Some, None, slice_get}
use Rattle.std.specs.List.{flat_map, find, list_all, list_any, range_with_len}
use Rattle.std.specs.Option.{option_map}
use Rattle.edi_tables.specs.Forms.{reps_of}
use Rattle.edi_tables.specs.declared.segment.ItemDef.{ItemDef}
use Rattle.edi_tables.specs.declared.segment.ItemDef.TheVariants.{Alone, Composite}
use Rattle.error_ledger.specs.declared.kind.Kind.{Kind}
use Rattle.error_ledger.specs.declared.kind.Kind.TheVariants.{Missing, TooManyRepetitions}
use Rattle.seg_lexer.specs.Fields.{Component, IsInOrder, are_single, octets_at}
use Rattle.seg_lexer.proofs.OrderLemmas.{IsInOrder-lower}
use Rattle.element_check.specs.Local.{component_errors_at, element_errors, elements_errors, element_kinds, error_at, errors_whole, has_octet, is_broken_at, is_broken_whole, is_component_broken, is_element_broken, is_missing, is_repeated_too_often, is_used, last_component, last_repetition, last_written, repetitions_of, value_at, values_in}
use Rattle.element_check.specs.Rules.{SegmentRules}
use Rattle.element_check.specs.Streams.{is_of, is_single_item, repetition_kinds}
use Rattle.element_check.proofs.RepetitionLemmas.{eq-is, last-here, last-other, later_repetitions, repetitions-all}

-- the components of first repetitions
abbrev pub first_only : List Component → List Component
first_only xs = filter (λ x. eqb x.repetition 1) xs

single-cond : (b : Bool) (x : Component) (ys : List Component) → eqb x.repetition 1 ≡ b → are_single ys ≡ true → are_single (cond b (x ∷ ys) ys) ≡ true
single-cond true x ys here later = and_from _ _ here later
single-cond false x ys here later = later

pub first-single : (xs : List Component) → are_single (first_only xs) ≡ true
first-single [] = refl
first-single (x ∷ xs) = single-cond (eqb x.repetition 1) x (first_only xs) refl (first-single xs)

order-cond : (b : Bool) (n : ℕ) (x : Component) (ys : List Component) → n ≤ x.element → IsInOrder x.element ys → IsInOrder n (cond b (x ∷ ys) ys)
order-cond true n x ys low later = (low, later)
order-cond false n x ys low later = IsInOrder-lower n x.element ys low later

pub first-order : (n : ℕ) (xs : List Component) → IsInOrder n xs → IsInOrder n (first_only xs)
first-order n [] order = tt
first-order n (x ∷ xs) order = order-cond (eqb x.repetition 1) n x (first_only xs) order.0 (first-order x.element xs order.1)

no-both : (b c : Bool) → (b && false && c) ≡ false
no-both true c = refl
no-both false c = refl

-- the value of a component of an element is that of its first repetition
module _ (element component : ℕ) where
  abbrev is_sought : Component → Bool
  is_sought e = eqb e.element element && eqb e.repetition 1 && eqb e.component component

  no-other : (x : Component) → eqb x.repetition 1 ≡ false → is_sought x ≡ false
  no-other x other = ap (λ b. eqb x.element element && b && eqb x.component component) other ∙ no-both (eqb x.element element) (eqb x.component component)

  find-first : (xs : List Component) → find is_sought (first_only xs) ≡ find is_sought xs
  find-first [] = refl
  find-first (x ∷ xs) = elim (cases_Bool (eqb x.repetition 1)) [
    | inl here ↦ ap (λ b. find is_sought (cond b (x ∷ first_only xs) (first_only xs))) here ∙ ap (λ o. cond (is_sought x) (Some x) o) (find-first xs)
    | inr other ↦
        ap (λ b. find is_sought (cond b (x ∷ first_only xs) (first_only xs))) other ∙ find-first xs
        ∙ sym (ap (λ b. cond b (Some x) (find is_sought xs)) (no-other x other))
  ]

  pub octets_at-first : (xs : List Component) → octets_at element component (first_only xs) ≡ octets_at element component xs
  octets_at-first xs = ap (option_map (λ e. e.octets)) (find-first xs)

not-both : (a b : Bool) → b ≡ false → (a && b) ≡ false
not-both true b none = none
not-both false b none = refl

-- the values of a first repetition are the same
abbrev values_put : Bool → Component → List Component → ℕ → List (List ℕ)
values_put b x xs element = map (λ x. x.octets) (cond b (x ∷ filter (is_of element 1) xs) (filter (is_of element 1) xs))

values-put : (b : Bool) (x : Component) (xs ys : List Component) (element : ℕ) → values_in xs element 1 ≡ values_in ys element 1 → values_put b x xs element ≡ values_put b x ys element
values-put true x xs ys element same = ap (λ vs. x.octets ∷ vs) same
values-put false x xs ys element same = same

pub values-first : (element : ℕ) (xs : List Component) → values_in (first_only xs) element 1 ≡ values_in xs element 1
values-first element [] = refl
values-first element (x ∷ xs) = elim (cases_Bool (eqb x.repetition 1)) [
  | inl here ↦
      ap (λ b. values_in (cond b (x ∷ first_only xs) (first_only xs)) element 1) here
      ∙ values-put (is_of element 1 x) x (first_only xs) xs element (values-first element xs)
  | inr other ↦
      ap (λ b. values_in (cond b (x ∷ first_only xs) (first_only xs)) element 1) other ∙ values-first element xs
      ∙ sym (ap (λ b. values_put b x xs element) (not-both (eqb x.element element) (eqb x.repetition 1) other))
]

last-cond : (element : ℕ) (b : Bool) (x : Component) (xs : List Component) → eqb x.repetition 1 ≡ b → last_repetition xs element ≡ 1 → last_repetition (cond b (x ∷ xs) xs) element ≡ 1
last-cond element false x xs here later = later
last-cond element true x xs here later = elim (cases_Bool (eqb x.element element)) [
  | inl same ↦ let one = eq-is x.repetition 1 here in last-here x xs element same ∙ omega arith
  | inr other ↦ last-other x xs element other ∙ later
]

last-first : (element : ℕ) (xs : List Component) → last_repetition (first_only xs) element ≡ 1
last-first element [] = refl
last-first element (x ∷ xs) = last-cond element (eqb x.repetition 1) x (first_only xs) refl (last-first element xs)

-- so an element has one repetition, its first
pub repetitions-first : (element : ℕ) (xs : List Component) → repetitions_of (first_only xs) element ≡ values_in xs element 1 ∷ []
repetitions-first element xs =
    ap (λ (n : ℕ). map (values_in (first_only xs) element) (range_with_len 1 n)) (last-first element xs)
    ∙ ap (λ vs. vs ∷ []) (values-first element xs)

-- nothing in lists is nothing in their parts
append-front : {X : Type 0} (xs ys : List X) → xs ++ ys ≡ [] → xs ≡ []
append-front [] ys none = refl
append-front (x ∷ xs) ys none = absurd (cc)

append-back : {X : Type 0} (xs ys : List X) → xs ++ ys ≡ [] → ys ≡ []
append-back [] ys none = none
append-back (x ∷ xs) ys none = absurd (cc)

map-nothing : {X Y : Type 0} (f : X → Y) (xs : List X) → map f xs ≡ [] → xs ≡ []
map-nothing f [] none = refl
map-nothing f (x ∷ xs) none = absurd (cc)

cond-nothing : {X : Type 0} (b : Bool) (x : X) (xs : List X) → cond b (x ∷ xs) xs ≡ [] → (b ≡ false) × (xs ≡ [])
cond-nothing true x xs none = absurd (cc)
cond-nothing false x xs none = (refl, none)

-- a test that passes no more than another, which none passes
filter-fewer : {X : Type 0} (f g : X → Bool) (xs : List X) → ((x : X) → f x ≡ false → g x ≡ false) → filter f xs ≡ [] → filter g xs ≡ []
filter-fewer f g [] fewer none = refl
filter-fewer f g (x ∷ xs) fewer none =
    let parts = cond-nothing (f x) x (filter f xs) none in
    ap (λ b. cond b (x ∷ filter g xs) (filter g xs)) (fewer x parts.0) ∙ filter-fewer f g xs fewer parts.1

filter-last : {X : Type 0} (f : X → Bool) (xs : List X) (x : X) → filter f (xs ++ x ∷ []) ≡ [] → f x ≡ false
filter-last f [] x none = (cond-nothing (f x) x [] none).0
filter-last f (y ∷ ys) x none = filter-last f ys x (cond-nothing (f y) y (filter f (ys ++ x ∷ [])) none).1

flat_map-fewer : {X : Type 0} (f g : ℕ → List X) (first m n : ℕ) → ((k : ℕ) → f k ≡ [] → g k ≡ []) → m ≤ n → flat_map f (range_with_len first n) ≡ [] → flat_map g (range_with_len first m) ≡ []
flat_map-fewer f g first zero n fewer le none = refl
flat_map-fewer f g first (suc m) zero fewer le none = absurd (omega arith)
flat_map-fewer f g first (suc m) (suc n) fewer le none =
    ap (λ ys. ys ++ flat_map g (range_with_len (first + 1) m)) (fewer first (append-front (f first) (flat_map f (range_with_len (first + 1) n)) none))
    ∙ flat_map-fewer f g (first + 1) m n fewer (omega arith) (append-back (f first) (flat_map f (range_with_len (first + 1) n)) none)

none-filled : (vs : List (List ℕ)) → is_used vs ≡ false → has_octet (value_at vs 1) ≡ false
none-filled [] none = refl
none-filled (v ∷ vs) none = (or_parts (has_octet v) (is_used vs) none).0

-- what isn't used lacks a value just where its item needs one
lacking : (item : ItemDef) (one other : List (List ℕ)) → is_used other ≡ false → is_missing item one ≡ true → is_missing item other ≡ true
lacking (Alone part reps) one other unused missing =
    ap (λ b. part.must && not b) (none-filled other unused) ∙ ap (λ b. b && true) (and_parts part.must (not (has_octet (value_at one 1))) missing).0
lacking (Composite code must reps) one other unused missing =
    ap (λ b. must && not b) unused ∙ ap (λ b. b && true) (and_parts must (not (is_used one)) missing).0

all-lacking : (item : ItemDef) (one : List (List ℕ)) (others : List (List (List ℕ))) → list_any is_used others ≡ false → is_missing item one ≡ true → list_all (is_missing item) others ≡ true
all-lacking item one [] unused missing = refl
all-lacking item one (other ∷ others) unused missing =
    let parts = or_parts (is_used other) (list_any is_used others) unused in
    and_from _ _ (lacking item one other parts.0 missing) (all-lacking item one others parts.1 missing)

module _ (rules : SegmentRules) (item : ItemDef) (single : is_single_item item ≡ true) (one : List (List ℕ)) (others : List (List (List ℕ))) where
  later-are : drop (reps_of item) (one ∷ others) ≡ others
  later-are = ap (λ (n : ℕ). drop n (one ∷ others)) (eq-is (reps_of item) 1 single)

  none-later : is_repeated_too_often (Some item) (one ∷ []) ≡ false
  none-later = ap (λ (n : ℕ). list_any is_used (drop n (one ∷ []))) (eq-is (reps_of item) 1 single)

  -- a first repetition breaks what all together would
  missing-first : is_repeated_too_often (Some item) (one ∷ others) ≡ false → list_all (is_missing item) (one ∷ others) ≡ false → is_missing item one ≡ false
  missing-first seldom broken = elim (cases_Bool (is_missing item one)) [
    | inl missing ↦ absurd (both_ways _ (sym (ap (λ b. b && list_all (is_missing item) others) missing) ∙ broken) (all-lacking item one others (sym (ap (list_any is_used) later-are) ∙ seldom) missing))
    | inr there ↦ there
  ]

  whole-fewer : is_repeated_too_often (Some item) (one ∷ others) ≡ false → (kind : Kind) → is_element_broken rules (Some item) (one ∷ others) kind ≡ false → is_element_broken rules (Some item) (one ∷ []) kind ≡ false
  whole-fewer seldom Missing broken = ap (λ b. b && true) (missing-first seldom broken)
  whole-fewer seldom TooManyRepetitions broken = none-later
  whole-fewer seldom kind broken =
      ap (λ b. b || false) (or_parts (is_broken_whole rules (Some item) one kind) (list_any (λ values. is_broken_whole rules (Some item) values kind) others) broken).0

module _ (rules : SegmentRules) (item : Option ItemDef) (one : List (List ℕ)) (others : List (List (List ℕ))) where
  at-fewer : (component : ℕ) (kind : Kind) → is_component_broken rules item (one ∷ others) component kind ≡ false → is_component_broken rules item (one ∷ []) component kind ≡ false
  at-fewer component kind broken =
      ap (λ b. b || false) (or_parts (is_broken_at rules item one component kind) (list_any (λ values. is_broken_at rules item values component kind) others) broken).0

  errors-fewer : (element component : ℕ) → component_errors_at rules item (one ∷ others) element component ≡ [] → component_errors_at rules item (one ∷ []) element component ≡ []
  errors-fewer element component none =
      ap (map (error_at element component)) (filter-fewer (is_component_broken rules item (one ∷ others) component) (is_component_broken rules item (one ∷ []) component) element_kinds (at-fewer component)
      (map-nothing (error_at element component) (filter (is_component_broken rules item (one ∷ others) component) element_kinds) none))

  components-fewer : (element : ℕ) → flat_map (component_errors_at rules item (one ∷ others) element) (range_with_len 1 (last_component rules item (one ∷ others))) ≡ []
      → flat_map (component_errors_at rules item (one ∷ []) element) (range_with_len 1 (last_component rules item (one ∷ []))) ≡ []
  components-fewer element none =
      flat_map-fewer (component_errors_at rules item (one ∷ others) element) (component_errors_at rules item (one ∷ []) element) 1 (last_component rules item (one ∷ [])) (last_component rules item (one ∷ others))
      (errors-fewer element) (omega arith) none

-- past the last item nothing is missing
past-fewer : (rules : SegmentRules) (one : List (List ℕ)) (others : List (List (List ℕ))) (kind : Kind) → is_element_broken rules None (one ∷ others) kind ≡ false → is_element_broken rules None (one ∷ []) kind ≡ false
past-fewer rules one others Missing broken = refl
past-fewer rules one others TooManyRepetitions broken = refl
past-fewer rules one others kind broken =
    ap (λ b. b || false) (or_parts (is_broken_whole rules None one kind) (list_any (λ values. is_broken_whole rules None values kind) others) broken).0

-- an element has no item, or one that may be there only once
abbrev IsSingle : Option ItemDef → Type 0
IsSingle o = (item : ItemDef) → o ≡ Some item → is_single_item item ≡ true

element-fewer : (rules : SegmentRules) (o : Option ItemDef) (one : List (List ℕ)) (others : List (List (List ℕ))) (element : ℕ) → IsSingle o
    → element_errors rules o (one ∷ others) element ≡ [] → element_errors rules o (one ∷ []) element ≡ []
unfolding element_errors
element-fewer rules None one others element single none =
    let front = append-front (errors_whole rules None (one ∷ others) element) _ none in
    ap (λ es. map (error_at element 0) es ++ flat_map (component_errors_at rules None (one ∷ []) element) (range_with_len 1 (last_component rules None (one ∷ []))))
    (filter-fewer (is_element_broken rules None (one ∷ others)) (is_element_broken rules None (one ∷ [])) element_kinds (past-fewer rules one others)
    (map-nothing (error_at element 0) (filter (is_element_broken rules None (one ∷ others)) element_kinds) front))
    ∙ components-fewer rules None one others element (append-back (errors_whole rules None (one ∷ others) element) _ none)
element-fewer rules (Some item) one others element single none =
    let front = append-front (errors_whole rules (Some item) (one ∷ others) element) _ none in
    let kinds = map-nothing (error_at element 0) (filter (is_element_broken rules (Some item) (one ∷ others)) element_kinds) front in
    let seldom = filter-last (is_element_broken rules (Some item) (one ∷ others)) repetition_kinds TooManyRepetitions kinds in
    ap (λ es. map (error_at element 0) es ++ flat_map (component_errors_at rules (Some item) (one ∷ []) element) (range_with_len 1 (last_component rules (Some item) (one ∷ []))))
    (filter-fewer (is_element_broken rules (Some item) (one ∷ others)) (is_element_broken rules (Some item) (one ∷ [])) element_kinds (whole-fewer rules item (single item refl) one others seldom) kinds)
    ∙ components-fewer rules (Some item) one others element (append-back (errors_whole rules (Some item) (one ∷ others) element) _ none)

single-at : (items : List ItemDef) (i : ℕ) → list_all is_single_item items ≡ true → IsSingle (slice_get items i)
single-at [] i all item is = absurd (cc)
single-at (first ∷ items) zero all item is =
    ap is_single_item (sym (same_Some _ _ is)) ∙ (and_parts (is_single_item first) (list_all is_single_item items) all).0
single-at (first ∷ items) (suc i) all item is = single-at items i (and_parts (is_single_item first) (list_all is_single_item items) all).1 item is

written-cond : (b : Bool) (x : Component) (ys xs : List Component) → last_written ys ≤ last_written xs → last_written (cond b (x ∷ ys) ys) ≤ max x.element (last_written xs)
written-cond true x ys xs le = omega arith
written-cond false x ys xs le = omega arith

written-first : (xs : List Component) → last_written (first_only xs) ≤ last_written xs
written-first [] = omega arith
written-first (x ∷ xs) = written-cond (eqb x.repetition 1) x (first_only xs) xs (written-first xs)

-- a segment without an error has none in its first repetitions alone
pub first-clean : (rules : SegmentRules) (components : List Component) → list_all is_single_item rules.items ≡ true → elements_errors rules components ≡ [] → elements_errors rules (first_only components) ≡ []
unfolding elements_errors
first-clean rules components single none =
    let written = written-first components in
    flat_map-fewer
    (λ element. element_errors rules (slice_get rules.items (element - 1)) (repetitions_of components element) element)
    (λ element. element_errors rules (slice_get rules.items (element - 1)) (repetitions_of (first_only components) element) element)
    1 (max (length rules.items) (last_written (first_only components))) (max (length rules.items) (last_written components))
    (λ element clean.
    ap (λ rs. element_errors rules (slice_get rules.items (element - 1)) rs element) (repetitions-first element components)
    ∙ element-fewer rules (slice_get rules.items (element - 1)) (values_in components element 1) (later_repetitions components element) element (single-at rules.items (element - 1) single)
    (ap (λ rs. element_errors rules (slice_get rules.items (element - 1)) rs element) (sym (repetitions-all element components)) ∙ clean))
    (omega arith) none
