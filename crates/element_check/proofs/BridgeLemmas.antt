-- The errors of all elements, one way through the components, are those of each element.
use Rattle.std.proofs.Common.{◌≡◌, ℕ, zero, suc, ◌+◌, ◌-◌, ◌<◌, ◌≤◌, max, ltb, eqb, Bool, true, false, ◌&&◌, ◌||◌, cond, not, List, [], ◌∷◌, ◌++◌, map, length, refl, sym, ap, subst, ◌∙◌, inl, inr, zero-add, arith}
use Rattle.std.proofs.Math.Nat.{le_refl}
use Rattle.std.proofs.lemmas.Bool.{and_parts, cases_Bool}
use Rattle.std.proofs.lemmas.Bool.Decides.{nat_tests}
use Rattle.std.specs.Prelude.{Option, Some, None, slice_get}
use Rattle.std.specs.Option.{option_map}
use Rattle.edi_tables.specs.declared.tag.Tag.{Tag}
use Rattle.std.specs.List.{flat_map, list_all, range_with_len}
use Rattle.edi_tables.specs.Rows.{when}
use Rattle.edi_tables.specs.declared.segment.ItemDef.{ItemDef}
use Rattle.error_ledger.specs.declared.kind.Kind.TheVariants.{BadTag, TooManyElements, UnknownSegment}
use Rattle.seg_lexer.specs.Fields.{Component, IsInOrder, PlacedComponent, are_single, unplaced}
use Rattle.seg_lexer.proofs.OrderLemmas.{IsInOrder-lower}
use Rattle.element_check.specs.Local.{element_errors, elements_errors, error_at, errors_by, errors_tagged, last_written, local_errors_of, repetitions_of}
use Rattle.seg_lexer.specs.Tag.{past_tag_field, tag_of}
use Rattle.seg_lexer.specs.declared.context.Context.{Context}
use Rattle.dir_compile.specs.declared.parts.Parts.{Parts}
use Rattle.element_check.specs.Rules.{SegmentRules, rules_of}
use Rattle.element_check.specs.Streams.{after_front, errors_past, errors_ruled, front_values, is_filled_component, is_repeatable, item_errors, items_errors, repeated_errors, surplus_elements}
use Rattle.element_check.specs.declared.error.LocalError.{LocalError}
use Rattle.element_check.proofs.StreamLemmas.{after-few}
use Rattle.element_check.proofs.ElementLemmas.{HoldsFrom, holds-here, holds-later, holds-none}
use Rattle.element_check.proofs.RepetitionLemmas.{after-repetitions, after-single, any_filled, eq-above, eq-is, is-false, is-true, repetitions-single, repetitions-some, used-any}
use Rattle.element_check.proofs.OneLemmas.{element-one, element-past}

-- what comes after an element has only later ones
after-order : (element : ℕ) (xs : List Component) → IsInOrder element xs → IsInOrder (element + 1) (after_front element xs)
after-order element [] order = tt
after-order element (x ∷ xs) order =
    let first = order.0 in
    elim (cases_Bool (eqb x.element element)) [
      | inl same ↦
          let is : x.element ≡ element = grind (arith, nat_tests) in
          subst (λ b. IsInOrder (element + 1) (cond b (after_front element xs) (x ∷ xs))) (sym same) (after-order element xs (IsInOrder-lower element x.element xs (omega arith) order.1))
      | inr differs ↦
          let later : element < x.element = grind (arith, nat_tests) in
          subst (λ b. IsInOrder (element + 1) (cond b (after_front element xs) (x ∷ xs))) (sym differs) (omega arith, order.1)
    ]

after-last : (element : ℕ) (xs : List Component) → last_written (after_front element xs) ≤ last_written xs
after-last element [] = le_refl 0
after-last element (x ∷ xs) =
    let h = after-last element xs in
    elim (cases_Bool (eqb x.element element)) [
      | inl same ↦ subst (λ b. last_written (cond b (after_front element xs) (x ∷ xs)) ≤ max x.element (last_written xs)) (sym same) (omega arith)
      | inr differs ↦ subst (λ b. last_written (cond b (after_front element xs) (x ∷ xs)) ≤ max x.element (last_written xs)) (sym differs) (le_refl (max x.element (last_written xs)))
    ]

-- no element is past the last one
surplus-none : (n : ℕ) (xs : List Component) → last_written xs ≤ n → surplus_elements n xs ≡ []
surplus-none n [] le = refl
surplus-none n (x ∷ xs) le =
    ap (λ b. cond (b && is_filled_component x) (error_at x.element 0 TooManyElements ∷ surplus_elements x.element xs) (surplus_elements n xs)) (is-false n x.element (omega arith))
    ∙ surplus-none n xs (omega arith)

-- the first component that is left, by tests of its element
abbrev surplus_by : Bool → Bool → ℕ → Component → List Component → List LocalError
surplus_by later filled n x xs = cond (later && filled) (error_at x.element 0 TooManyElements ∷ surplus_elements x.element xs) (surplus_elements n xs)

abbrev told_by : ℕ → Bool → List LocalError
told_by n used = when used (error_at n 0 TooManyElements)

-- an element below all that are left has no filled component there
filled-none : (low element : ℕ) (xs : List Component) → IsInOrder low xs → element < low → any_filled element xs ≡ false
filled-none low element [] order less = refl
filled-none low element (x ∷ xs) order less =
    let first = order.0 in
    let later : element < x.element = omega arith in
    ap (λ b. (b && is_filled_component x) || any_filled element xs) (eq-above x.element element later) ∙ filled-none x.element element xs order.1 later

skip : (b : Bool) (n : ℕ) (x : Component) (xs : List Component) → is_filled_component x ≡ false → told_by n ((b && is_filled_component x) || any_filled n xs) ≡ told_by n (any_filled n xs)
skip true n x xs empty = ap (λ f. told_by n (f || any_filled n xs)) empty
skip false n x xs empty = refl

never : (later : Bool) (n : ℕ) (x : Component) (xs : List Component) → surplus_by later false n x xs ≡ surplus_elements n xs
never true n x xs = refl
never false n x xs = refl

-- the next element is reported, or it isn't
surplus-step : (low n : ℕ) (xs : List Component) → IsInOrder low xs → told_by (n + 1) (any_filled (n + 1) xs) ++ surplus_elements (n + 1) xs ≡ surplus_elements n xs
surplus-step low n [] order = refl
surplus-step low n (x ∷ xs) order = elim (cases_Bool (is_filled_component x)) [
  | inl filled ↦ elim (cases_Bool (eqb x.element (n + 1))) [
    | inl same ↦
        let is : x.element ≡ n + 1 = eq-is x.element (n + 1) same in
        ap (λ b. told_by (n + 1) ((b && is_filled_component x) || any_filled (n + 1) xs) ++ surplus_elements (n + 1) (x ∷ xs)) same
        ∙ ap (λ b. told_by (n + 1) (b || any_filled (n + 1) xs) ++ surplus_elements (n + 1) (x ∷ xs)) filled
        ∙ ap (λ b. error_at (n + 1) 0 TooManyElements ∷ surplus_by b (is_filled_component x) (n + 1) x xs) (is-false (n + 1) x.element (omega arith))
        ∙ ap (λ (e : ℕ). error_at e 0 TooManyElements ∷ surplus_elements e xs) (sym is)
        ∙ sym (ap (λ b. surplus_by b (is_filled_component x) n x xs) (is-true n x.element (omega arith)) ∙ ap (λ b. surplus_by true b n x xs) filled)
    | inr differs ↦ elim (cases_Bool (ltb n x.element)) [
      | inl later ↦
          let above : n + 1 < x.element = grind (arith, nat_tests) in
          ap (λ b. told_by (n + 1) ((b && is_filled_component x) || any_filled (n + 1) xs) ++ surplus_elements (n + 1) (x ∷ xs)) differs
          ∙ ap (λ b. told_by (n + 1) b ++ surplus_elements (n + 1) (x ∷ xs)) (filled-none x.element (n + 1) xs order.1 above)
          ∙ ap (λ b. surplus_by b (is_filled_component x) (n + 1) x xs) (is-true (n + 1) x.element above)
          ∙ ap (λ b. surplus_by true b (n + 1) x xs) filled
          ∙ sym (ap (λ b. surplus_by b (is_filled_component x) n x xs) later ∙ ap (λ b. surplus_by true b n x xs) filled)
      | inr before ↦
          let below : x.element < n + 1 = grind (arith, nat_tests) in
          ap (λ b. told_by (n + 1) ((b && is_filled_component x) || any_filled (n + 1) xs) ++ surplus_elements (n + 1) (x ∷ xs)) differs
          ∙ ap (λ b. told_by (n + 1) (any_filled (n + 1) xs) ++ surplus_by b (is_filled_component x) (n + 1) x xs) (is-false (n + 1) x.element (omega arith))
          ∙ surplus-step x.element n xs order.1
          ∙ sym (ap (λ b. surplus_by b (is_filled_component x) n x xs) before)
    ]
  ]
  | inr empty ↦
      ap (λ es. es ++ surplus_elements (n + 1) (x ∷ xs)) (skip (eqb x.element (n + 1)) (n + 1) x xs empty)
      ∙ ap (λ b. told_by (n + 1) (any_filled (n + 1) xs) ++ surplus_by (ltb (n + 1) x.element) b (n + 1) x xs) empty
      ∙ ap (λ es. told_by (n + 1) (any_filled (n + 1) xs) ++ es) (never (ltb (n + 1) x.element) (n + 1) x xs)
      ∙ surplus-step x.element n xs order.1
      ∙ sym (ap (λ b. surplus_by (ltb n x.element) b n x xs) empty ∙ never (ltb n x.element) n x xs)
]

-- as many elements as there are items, and m more
abbrev more_than : List ItemDef → ℕ → ℕ
more_than [] m = m
more_than (item ∷ items) m = suc (more_than items m)

more_than-sum : (items : List ItemDef) (m : ℕ) → more_than items m ≡ length items + m
more_than-sum [] m = omega arith
more_than-sum (item ∷ items) m = let h = more_than-sum items m in omega arith

module _ (rules : SegmentRules) (components : List Component) where
  abbrev errors_of_element : ℕ → List LocalError
  errors_of_element element = element_errors rules (slice_get rules.items (element - 1)) (repetitions_of components element) element

  -- past element n, a segment says what these components say
  abbrev SaysFrom : ℕ → List Component → Type 0
  SaysFrom n xs = (element : ℕ) → n < element → repetitions_of components element ≡ repetitions_of xs element

  says-later : (n : ℕ) (xs : List Component) → SaysFrom n xs → SaysFrom (n + 1) xs
  says-later n xs says element less = says element (omega arith)

  says-after : (n : ℕ) (xs : List Component) → SaysFrom n xs → SaysFrom (n + 1) (after_front (n + 1) xs)
  says-after n xs says element less = says element (omega arith) ∙ sym (after-repetitions (n + 1) element xs less)

  past-walk : (m n low : ℕ) (xs : List Component) → HoldsFrom rules.items n [] → SaysFrom n xs → IsInOrder low xs → last_written xs ≤ n + m
      → flat_map errors_of_element (range_with_len (n + 1) m) ≡ surplus_elements n xs
  past-walk zero n low xs none says order last = sym (surplus-none n xs (omega arith))
  past-walk (suc m) n low xs none says order last =
      ap (λ o. element_errors rules o (repetitions_of components (n + 1)) (n + 1) ++ flat_map errors_of_element (range_with_len (n + 1 + 1) m)) (holds-here rules.items n [] none)
      ∙ ap (λ rs. element_errors rules None rs (n + 1) ++ flat_map errors_of_element (range_with_len (n + 1 + 1) m)) (says (n + 1) (omega arith))
      ∙ ap (λ es. es ++ flat_map errors_of_element (range_with_len (n + 1 + 1) m)) (element-past rules (repetitions_of xs (n + 1)) (repetitions-some xs (n + 1)) (n + 1))
      ∙ ap (λ b. told_by (n + 1) b ++ flat_map errors_of_element (range_with_len (n + 1 + 1) m)) (used-any (n + 1) xs)
      ∙ ap (λ es. told_by (n + 1) (any_filled (n + 1) xs) ++ es) (past-walk m (n + 1) low xs (holds-none rules.items n none) (says-later n xs says) order (omega arith))
      ∙ surplus-step low n xs order

  items-walk : (items : List ItemDef) (m n : ℕ) (xs : List Component) → HoldsFrom rules.items n items → SaysFrom n xs → IsInOrder (n + 1) xs → last_written xs ≤ n + more_than items m
      → flat_map errors_of_element (range_with_len (n + 1) (more_than items m)) ≡ repeated_errors rules n items xs
  items-walk [] m n xs items_are says order last = past-walk m n (n + 1) xs items_are says order last
  items-walk (item ∷ items) m n xs items_are says order last =
      let fewer = after-last (n + 1) xs in
      ap (λ o. element_errors rules o (repetitions_of components (n + 1)) (n + 1) ++ flat_map errors_of_element (range_with_len (n + 1 + 1) (more_than items m))) (holds-here rules.items n (item ∷ items) items_are)
      ∙ ap (λ rs. element_errors rules (Some item) rs (n + 1) ++ flat_map errors_of_element (range_with_len (n + 1 + 1) (more_than items m))) (says (n + 1) (omega arith))
      ∙ ap (λ es. element_errors rules (Some item) (repetitions_of xs (n + 1)) (n + 1) ++ es)
      (items-walk items m (n + 1) (after_front (n + 1) xs) (holds-later rules.items n item items items_are) (says-after n xs says) (after-order (n + 1) xs order) (omega arith))

  -- the errors of all elements
  pub repeated-walk : IsInOrder 0 components → repeated_errors rules 0 rules.items (after_front 0 components) ≡ elements_errors rules components
  unfolding elements_errors
  repeated-walk order =
      let m : ℕ = last_written components - length rules.items in
      let total : max (length rules.items) (last_written components) ≡ more_than rules.items m = let h = more_than-sum rules.items m in omega arith in
      let fewer = after-last 0 components in
      let h = more_than-sum rules.items m in
      sym (ap (λ (n : ℕ). flat_map errors_of_element (range_with_len 1 n)) total
      ∙ items-walk rules.items m 0 (after_front 0 components) (λ k. ap (slice_get rules.items) (zero-add k)) (λ element less. sym (after-repetitions 0 element components less)) (after-order 0 components order) (omega arith))

-- where nothing is repeated, the errors are those of one repetition each
single-walk : (rules : SegmentRules) (items : List ItemDef) (n : ℕ) (xs : List Component) → list_all is_repeatable items ≡ true → IsInOrder (n + 1) xs → are_single xs ≡ true
    → repeated_errors rules n items xs ≡ items_errors rules n items xs
single-walk rules [] n xs all order single = refl
single-walk rules (item ∷ items) n xs all order single =
    let parts = and_parts (is_repeatable item) (list_all is_repeatable items) all in
    ap (λ rs. element_errors rules (Some item) rs (n + 1) ++ repeated_errors rules (n + 1) items (after_front (n + 1) xs)) (repetitions-single (n + 1) xs order single)
    ∙ ap (λ es. es ++ repeated_errors rules (n + 1) items (after_front (n + 1) xs)) (element-one rules item (front_values (n + 1) xs) (n + 1) parts.0)
    ∙ ap (λ es. item_errors rules (n + 1) item (front_values (n + 1) xs) ++ es)
    (single-walk rules items (n + 1) (after_front (n + 1) xs) parts.1 (after-order (n + 1) xs order) (after-single (n + 1) xs single))

pub elements-walk : (rules : SegmentRules) (components : List Component) → list_all is_repeatable rules.items ≡ true → are_single components ≡ true → IsInOrder 0 components
    → items_errors rules 0 rules.items (after_front 0 components) ≡ elements_errors rules components
elements-walk rules components all single order =
    sym (single-walk rules rules.items 0 (after_front 0 components) all (after-order 0 components order) (after-single 0 components single))
    ∙ repeated-walk rules components order

-- where no component is of the tag field, all are past it
past-all : (n : ℕ) (fs : List PlacedComponent) → 0 < n → IsInOrder n (map unplaced fs) → past_tag_field fs ≡ fs
past-all n [] low order = refl
past-all n (f ∷ fs) low order =
    let above = order.0 in
    let other : eqb f.element 0 ≡ false = eq-above f.element 0 (omega arith) in
    ap (λ b. cond (not b) (f ∷ past_tag_field fs) (past_tag_field fs)) other
    ∙ ap (λ gs. f ∷ gs) (past-all f.element fs (omega arith) order.1)

-- the components past the tag field are those after the ones of element 0
pub past-front : (fs : List PlacedComponent) → IsInOrder 0 (map unplaced fs) → map unplaced (past_tag_field fs) ≡ after_front 0 (map unplaced fs)
past-front [] order = refl
past-front (f ∷ fs) order = elim (cases_Bool (eqb f.element 0)) [
  | inl same ↦
      ap (λ b. map unplaced (cond (not b) (f ∷ past_tag_field fs) (past_tag_field fs))) same
      ∙ past-front fs (IsInOrder-lower 0 f.element (map unplaced fs) (omega arith) order.1)
      ∙ sym (ap (λ b. cond b (after_front 0 (map unplaced fs)) (unplaced f ∷ map unplaced fs)) same)
  | inr differs ↦
      let above : 0 < f.element = grind (arith, nat_tests) in
      ap (λ b. map unplaced (cond (not b) (f ∷ past_tag_field fs) (past_tag_field fs))) differs
      ∙ ap (λ gs. unplaced f ∷ map unplaced gs) (past-all f.element fs above order.1)
      ∙ sym (ap (λ b. cond b (after_front 0 (map unplaced fs)) (unplaced f ∷ map unplaced fs)) differs)
]

-- the errors of a segment, by its tag and its components past the tag field
module _ (parts : Parts) (context : Context) (components : List Component) (order : IsInOrder 0 components) where
  ruled : (o : Option SegmentRules) → errors_ruled (after_front 0 components) o ≡ errors_by components o
  ruled None = refl
  ruled (Some rules) = repeated-walk rules components order

  tagged : (o : Option (List ℕ)) → errors_past parts context (after_front 0 components) o ≡ errors_tagged parts context components o
  tagged None = refl
  tagged (Some tag) = ruled (rules_of parts context tag)

pub errors-past : (parts : Parts) (context : Context) (all past : List PlacedComponent) (tag : Option (List ℕ))
    → IsInOrder 0 (map unplaced all) → past ≡ past_tag_field all → tag ≡ tag_of (map unplaced all)
    → errors_past parts context (map unplaced past) tag ≡ local_errors_of parts context (map unplaced all)
unfolding local_errors_of
errors-past parts context all past tag order past_is tag_is =
    ap (λ (fs : List PlacedComponent). errors_past parts context (map unplaced fs) tag) past_is
    ∙ ap (λ (cs : List Component). errors_past parts context cs tag) (past-front all order)
    ∙ ap (errors_past parts context (after_front 0 (map unplaced all))) tag_is
    ∙ tagged parts context (map unplaced all) order (tag_of (map unplaced all))

pub past-few : (all past : List PlacedComponent) (n : ℕ) → IsInOrder 0 (map unplaced all) → past ≡ past_tag_field all → length (map unplaced all) < n → length (map unplaced past) < n
past-few all past n order past_is few =
    after-few 0 n (map unplaced all) (map unplaced past) (ap (map unplaced) past_is ∙ past-front all order) few

-- the errors by the tag that there is or isn't, and by its rules
module _ (parts : Parts) (context : Context) (elements : List Component) where
  pub past-untagged : (tag : Option Tag) → tag ≡ None → error_at 0 0 BadTag ∷ [] ≡ errors_past parts context elements (option_map (λ t. t.octets) tag)
  past-untagged tag none = sym (ap (λ (t : Option Tag). errors_past parts context elements (option_map (λ t. t.octets) t)) none)

  pub past-unknown : (tag : Option Tag) (found : Tag) → tag ≡ Some found → rules_of parts context found.octets ≡ None
      → error_at 0 0 UnknownSegment ∷ [] ≡ errors_past parts context elements (option_map (λ t. t.octets) tag)
  past-unknown tag found is none =
      sym (ap (λ (t : Option Tag). errors_past parts context elements (option_map (λ t. t.octets) t)) is ∙ ap (errors_ruled elements) none)

  pub past-known : (tag : Option Tag) (found : Tag) (rules : SegmentRules) → tag ≡ Some found → rules_of parts context found.octets ≡ Some rules
      → repeated_errors rules 0 rules.items elements ≡ errors_past parts context elements (option_map (λ t. t.octets) tag)
  past-known tag found rules is known =
      sym (ap (λ (t : Option Tag). errors_past parts context elements (option_map (λ t. t.octets) t)) is ∙ ap (errors_ruled elements) known)
