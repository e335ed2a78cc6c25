-- The local errors of a segment ascend: the kinds of one place do, places do within an element, and elements do.
use Rattle.std.proofs.Common.{◌≡◌, ℕ, zero, suc, ◌+◌, ◌-◌, ◌<◌, ◌≤◌, Bool, true, false, cond, List, [], ◌∷◌, ◌++◌, map, filter, refl, sym, ◌∙◌, arith}
use Rattle.std.specs.Prelude.{Option, Some, None, ⊤, slice_get}
use Rattle.std.specs.List.{AllByRecursion, flat_map, range_with_len}
use Rattle.std.specs.List.Sorted.{IsStrictlySortedBy}
use Rattle.std.specs.Ordering.{nat_cmp}
use Rattle.std.specs.declared.cmp.Ordering.TheVariants.{Less, Equal}
use Rattle.std.proofs.lemmas.Bool.Decides.{nat_tests}
use Rattle.edi_tables.specs.declared.segment.ItemDef.{ItemDef}
use Rattle.error_ledger.specs.declared.kind.Kind.{Kind}
use Rattle.error_ledger.specs.Kinds.{number_of}
use Rattle.error_ledger.specs.Order.{compare_keys}
use Rattle.dir_compile.specs.declared.parts.Parts.{Parts}
use Rattle.seg_lexer.specs.Fields.{Component}
use Rattle.seg_lexer.specs.Tag.{tag_of}
use Rattle.seg_lexer.specs.declared.context.Context.{Context}
use Rattle.element_check.specs.Ascending.{AreAscending, order_key_of}
use Rattle.element_check.specs.Local.{element_errors, elements_errors, element_kinds, error_at, errors_by, errors_tagged, is_component_broken, is_element_broken, last_component, local_errors_of, repetitions_of}
use Rattle.element_check.specs.Rules.{SegmentRules, rules_of}
use Rattle.element_check.specs.declared.error.LocalError.{LocalError}

module _ {X : Type 0} where
  each-then : (P Q : X → Type 0) → ((x : X) → P x → Q x) → (xs : List X) → AllByRecursion P xs → AllByRecursion Q xs
  each-then P Q f [] h = tt
  each-then P Q f (x ∷ xs) h = (f x h.0, each-then P Q f xs h.1)

  each-append : (P : X → Type 0) (xs ys : List X) → AllByRecursion P xs → AllByRecursion P ys → AllByRecursion P (xs ++ ys)
  each-append P [] ys h k = k
  each-append P (x ∷ xs) ys h k = (h.0, each-append P xs ys h.1 k)

  each-put : (P : X → Type 0) (b : Bool) (x : X) (xs : List X) → P x → AllByRecursion P xs → AllByRecursion P (cond b (x ∷ xs) xs)
  each-put P true x xs p h = (p, h)
  each-put P false x xs p h = h

  each-filter : (P : X → Type 0) (f : X → Bool) (xs : List X) → AllByRecursion P xs → AllByRecursion P (filter f xs)
  each-filter P f [] h = tt
  each-filter P f (x ∷ xs) h = each-put P (f x) x (filter f xs) h.0 (each-filter P f xs h.1)

each-map : {X Y : Type 0} (P : X → Type 0) (Q : Y → Type 0) (f : X → Y) → ((x : X) → P x → Q (f x)) → (xs : List X) → AllByRecursion P xs → AllByRecursion Q (map f xs)
each-map P Q f g [] h = tt
each-map P Q f g (x ∷ xs) h = (g x h.0, each-map P Q f g xs h.1)

-- each member is before all later ones
module _ {X : Type 0} (Before : X → X → Type 0) where
  abbrev pub Rises : List X → Type 0
  Rises [] = ⊤
  Rises (x ∷ xs) = AllByRecursion (Before x) xs × Rises xs

  rises-put : (b : Bool) (x : X) (xs : List X) → AllByRecursion (Before x) xs → Rises xs → Rises (cond b (x ∷ xs) xs)
  rises-put true x xs h up = (h, up)
  rises-put false x xs h up = up

  rises-filter : (f : X → Bool) (xs : List X) → Rises xs → Rises (filter f xs)
  rises-filter f [] up = tt
  rises-filter f (x ∷ xs) up =
      rises-put (f x) x (filter f xs) (each-filter (Before x) f xs up.0) (rises-filter f xs up.1)

  rises-append : (P Q : X → Type 0) → ((x y : X) → P x → Q y → Before x y) → (xs ys : List X) → AllByRecursion P xs → AllByRecursion Q ys → Rises xs → Rises ys → Rises (xs ++ ys)
  rises-append P Q apart [] ys p q up_xs up_ys = up_ys
  rises-append P Q apart (x ∷ xs) ys p q up_xs up_ys =
      (each-append (Before x) xs ys up_xs.0 (each-then Q (Before x) (λ y. apart x y p.0) ys q), rises-append P Q apart xs ys p.1 q up_xs.1 up_ys)

rises-map : {X Y : Type 0} (R : X → X → Type 0) (S : Y → Y → Type 0) (f : X → Y) → ((x y : X) → R x y → S (f x) (f y)) → (xs : List X) → Rises R xs → Rises S (map f xs)
rises-map R S f g [] up = tt
rises-map R S f g (x ∷ xs) up = (each-map (R x) (S (f x)) f (g x) xs up.0, rises-map R S f g xs up.1)

-- lists of successive places, one after another
module _ {X : Type 0} (Before : X → X → Type 0) (P : X → Type 0) (place : X → ℕ) (f : ℕ → List X) (here : (n : ℕ) → AllByRecursion (λ x. P x × (place x ≡ n)) (f n)) where
  each-range : (first len : ℕ) → AllByRecursion (λ x. P x × (first ≤ place x)) (flat_map f (range_with_len first len))
  each-range first zero = tt
  each-range first (suc len) =
      each-append (λ x. P x × (first ≤ place x)) (f first) (flat_map f (range_with_len (first + 1) len))
      (each-then (λ x. P x × (place x ≡ first)) (λ x. P x × (first ≤ place x)) (λ x h. (h.0, omega arith)) (f first) (here first))
      (each-then (λ x. P x × (first + 1 ≤ place x)) (λ x. P x × (first ≤ place x)) (λ x h. (h.0, omega arith)) (flat_map f (range_with_len (first + 1) len)) (each-range (first + 1) len))

  module _ (apart : (x y : X) → P x → P y → place x < place y → Before x y) (up : (n : ℕ) → Rises Before (f n)) where
    rises-range : (first len : ℕ) → Rises Before (flat_map f (range_with_len first len))
    rises-range first zero = tt
    rises-range first (suc len) =
        rises-append Before (λ x. P x × (place x ≡ first)) (λ x. P x × (first + 1 ≤ place x))
        (λ x y h k. apart x y h.0 k.0 (omega arith))
        (f first) (flat_map f (range_with_len (first + 1) len)) (here first) (each-range (first + 1) len) (up first) (rises-range (first + 1) len)

-- one error is before another: by its element, its component, or its kind
abbrev pub IsBefore : LocalError → LocalError → Type 0
IsBefore x y = compare_keys (order_key_of x) (order_key_of y) ≡ Less

less : (a b : ℕ) → a < b → nat_cmp a b ≡ Less
less a b h = grind (arith, nat_tests)

same : (a b : ℕ) → a ≡ b → nat_cmp a b ≡ Equal
same a b h = grind (arith, nat_tests)

before-by_element : (x y : LocalError) → x.element < y.element → IsBefore x y
before-by_element x y h = rw (less x.element y.element h) refl

before-by_component : (x y : LocalError) → x.element ≡ y.element → x.component < y.component → IsBefore x y
before-by_component x y e h = rw (same x.element y.element e, less x.component y.component h) refl

abbrev IsLower : Kind → Kind → Type 0
IsLower a b = nat_cmp (number_of a) (number_of b) ≡ Less

before-by_kind : (element component : ℕ) (a b : Kind) → IsLower a b → IsBefore (error_at element component a) (error_at element component b)
before-by_kind element component a b h = rw (same element element refl, same component component refl, h) refl

kinds-rise : Rises IsLower element_kinds
unfolding number_of
kinds-rise = ((refl, (refl, (refl, (refl, (refl, (refl, (refl, (refl, (refl, tt))))))))), ((refl, (refl, (refl, (refl, (refl, (refl, (refl, (refl, tt)))))))), ((refl, (refl, (refl, (refl, (refl, (refl, (refl, tt))))))), ((refl, (refl, (refl, (refl, (refl, (refl, tt)))))), ((refl, (refl, (refl, (refl, (refl, tt))))), ((refl, (refl, (refl, (refl, tt)))), ((refl, (refl, (refl, tt))), ((refl, (refl, tt)), ((refl, tt), (tt, tt))))))))))

-- the errors of one place
abbrev pub place_errors : ℕ → ℕ → (Kind → Bool) → List LocalError
place_errors element component broken = map (error_at element component) (filter broken element_kinds)

each-at : (element component : ℕ) (kinds : List Kind) → AllByRecursion (λ x. (x.element ≡ element) × (x.component ≡ component)) (map (error_at element component) kinds)
each-at element component [] = tt
each-at element component (k ∷ ks) = ((refl, refl), each-at element component ks)

rises-at : (element component : ℕ) (broken : Kind → Bool) → Rises IsBefore (place_errors element component broken)
rises-at element component broken =
    rises-map IsLower IsBefore (error_at element component) (before-by_kind element component) (filter broken element_kinds)
    (rises-filter IsLower broken element_kinds kinds-rise)

-- the errors of one element
module _ (element : ℕ) (whole : Kind → Bool) (broken : ℕ → Kind → Bool) (len : ℕ) where
  abbrev pub components_errors : List LocalError
  components_errors = flat_map (λ component. place_errors element component (broken component)) (range_with_len 1 len)

  each-component : AllByRecursion (λ x. (x.element ≡ element) × (1 ≤ x.component)) components_errors
  each-component =
      each-range IsBefore (λ x. x.element ≡ element) (λ x. x.component) (λ component. place_errors element component (broken component))
      (λ component. each-at element component (filter (broken component) element_kinds)) 1 len

  each-of_element : AllByRecursion (λ x. x.element ≡ element) (place_errors element 0 whole ++ components_errors)
  each-of_element =
      each-append (λ x. x.element ≡ element) (place_errors element 0 whole) components_errors
      (each-then (λ x. (x.element ≡ element) × (x.component ≡ 0)) (λ x. x.element ≡ element) (λ x h. h.0) (place_errors element 0 whole) (each-at element 0 (filter whole element_kinds)))
      (each-then (λ x. (x.element ≡ element) × (1 ≤ x.component)) (λ x. x.element ≡ element) (λ x h. h.0) components_errors each-component)

  rises-components : Rises IsBefore components_errors
  rises-components =
      rises-range IsBefore (λ x. x.element ≡ element) (λ x. x.component) (λ component. place_errors element component (broken component))
      (λ component. each-at element component (filter (broken component) element_kinds))
      (λ x y h k. before-by_component x y (h ∙ sym k))
      (λ component. rises-at element component (broken component)) 1 len

  pub rises-of_element : Rises IsBefore (place_errors element 0 whole ++ components_errors)
  rises-of_element =
      rises-append IsBefore (λ x. (x.element ≡ element) × (x.component ≡ 0)) (λ x. (x.element ≡ element) × (1 ≤ x.component))
      (λ x y h k. before-by_component x y (h.0 ∙ sym k.0) (omega arith))
      (place_errors element 0 whole) components_errors (each-at element 0 (filter whole element_kinds)) each-component (rises-at element 0 whole) rises-components

each-of_errors : (rules : SegmentRules) (item : Option ItemDef) (repetitions : List (List (List ℕ))) (element : ℕ) → AllByRecursion (λ x. ⊤ × (x.element ≡ element)) (element_errors rules item repetitions element)
unfolding element_errors
each-of_errors rules item repetitions element =
    each-then (λ x. x.element ≡ element) (λ x. ⊤ × (x.element ≡ element)) (λ x h. (tt, h)) (element_errors rules item repetitions element)
    (each-of_element element (is_element_broken rules item repetitions) (is_component_broken rules item repetitions) (last_component rules item repetitions))

rises-of_errors : (rules : SegmentRules) (item : Option ItemDef) (repetitions : List (List (List ℕ))) (element : ℕ) → Rises IsBefore (element_errors rules item repetitions element)
unfolding element_errors
rises-of_errors rules item repetitions element =
    rises-of_element element (is_element_broken rules item repetitions) (is_component_broken rules item repetitions) (last_component rules item repetitions)

-- the errors of all elements
rises-of_elements : (rules : SegmentRules) (components : List Component) (len : ℕ) → Rises IsBefore (flat_map (λ element. element_errors rules (slice_get rules.items (element - 1)) (repetitions_of components element) element) (range_with_len 1 len))
rises-of_elements rules components len =
    rises-range IsBefore (λ x. ⊤) (λ x. x.element)
    (λ element. element_errors rules (slice_get rules.items (element - 1)) (repetitions_of components element) element)
    (λ element. each-of_errors rules (slice_get rules.items (element - 1)) (repetitions_of components element) element)
    (λ x y h k. before-by_element x y)
    (λ element. rises-of_errors rules (slice_get rules.items (element - 1)) (repetitions_of components element) element) 1 len

rises-by : (components : List Component) (rules : Option SegmentRules) → Rises IsBefore (errors_by components rules)
unfolding elements_errors
rises-by components None = (tt, tt)
rises-by components (Some rules) = rises-of_elements rules components _

rises-tagged : (parts : Parts) (context : Context) (components : List Component) (tag : Option (List ℕ)) → Rises IsBefore (errors_tagged parts context components tag)
rises-tagged parts context components None = (tt, tt)
rises-tagged parts context components (Some tag) = rises-by components (rules_of parts context tag)

-- a list that rises is sorted
pub sorted-rising : (xs : List LocalError) → Rises IsBefore xs → AreAscending xs
unfolding IsStrictlySortedBy
sorted-rising [] up = tt
sorted-rising (x ∷ xs) up =
    (each-map (IsBefore x) (λ y. compare_keys (order_key_of x) y ≡ Less) order_key_of (λ y h. h) xs up.0, sorted-rising xs up.1)

-- the local errors of a segment ascend
pub local_errors-ascending : (parts : Parts) (context : Context) (components : List Component) → AreAscending (local_errors_of parts context components)
unfolding local_errors_of
local_errors-ascending parts context components =
    sorted-rising (errors_tagged parts context components (tag_of components)) (rises-tagged parts context components (tag_of components))

pub told-ascending : (parts : Parts) (context : Context) (components : List Component) (told : List LocalError) → told ≡ local_errors_of parts context components → AreAscending told
told-ascending parts context components told is = rw is (local_errors-ascending parts context components)
