-- The places and kinds of an element, and its errors as those among them that break a rule.
use Rattle.std.proofs.Common.{◌≡◌, ℕ, zero, suc, ◌+◌, ◌-◌, ◌<◌, ◌≤◌, eqb, Bool, true, false, ◌||◌, cond, List, [], ◌∷◌, ◌++◌, map, filter, refl, sym, ap, ◌∙◌, arith}
use Rattle.std.proofs.lemmas.Bool.Decides.{nat_tests}
use Rattle.std.proofs.lemmas.List.Elements.{filter-append}
use Rattle.std.proofs.lemmas.Option.{slice_get_past}
use Rattle.std.specs.Prelude.{Some, None, slice_get, unwrap_or}
use Rattle.std.specs.List.{flat_map, range_with_len}
use Rattle.edi_tables.specs.declared.segment.ItemDef.{ItemDef}
use Rattle.error_ledger.specs.declared.kind.Kind.{Kind}
use Rattle.error_ledger.specs.declared.kind.Kind.TheVariants.{TooManyComponents, TooManyRepetitions}
use Rattle.element_check.specs.Ascending.{AreAscending}
use Rattle.element_check.specs.Local.{component_count, element_errors, element_kinds, error_at, is_broken_at, is_broken_part, is_broken_whole, is_component_broken, is_element_broken, last_component, parts_in, value_at}
use Rattle.element_check.specs.Rules.{SegmentRules}
use Rattle.element_check.specs.Streams.{repetition_errors, repetition_kinds}
use Rattle.element_check.specs.declared.error.LocalError.{LocalError}
use Rattle.element_check.proofs.AscendingLemmas.{rises-of_element, sorted-rising}
use Rattle.element_check.proofs.OneLemmas.{at-never, filter-but_last, flat_map-same, whole-never}

-- what may be wrong at an element whose last component has number n: each kind at each place, in order
unfoldable pub places : ℕ → ℕ → List LocalError
places element n =
    map (error_at element 0) element_kinds ++ flat_map (λ component. map (error_at element component) element_kinds) (range_with_len 1 n)

-- they ascend
pub places-ascending : (element n : ℕ) → AreAscending (places element n)
unfolding places
places-ascending element n = sorted-rising (places element n) (rises-of_element element (λ kind. true) (λ component kind. true) n)

-- an error is one that these tests tell: of an element as a whole, and of each component
abbrev pub is_told : (Kind → Bool) → (ℕ → Kind → Bool) → LocalError → Bool
is_told whole broken e = cond (eqb e.component 0) (whole e.kind) (broken e.component e.kind)

module _ {X Y : Type 0} (p : Y → Bool) (f : X → Y) (q : X → Bool) (same : (x : X) → p (f x) ≡ q x) where
  filter-mapped : (xs : List X) → filter p (map f xs) ≡ map f (filter q xs)
  filter-mapped [] = refl
  filter-mapped (x ∷ xs) =
      ap (λ (b : Bool). cond b (f x ∷ filter p (map f xs)) (filter p (map f xs))) (same x)
      ∙ ap (λ (ys : List Y). cond (q x) (f x ∷ ys) ys) (filter-mapped xs)
      ∙ put (q x) x (filter q xs)
    where
      put : (b : Bool) (x : X) (xs : List X) → cond b (f x ∷ map f xs) (map f xs) ≡ map f (cond b (x ∷ xs) xs)
      put true x xs = refl
      put false x xs = refl

-- numbers from 1 on aren't 0
above-none : (c : ℕ) → 0 < c → eqb c 0 ≡ false
above-none c h = grind (arith, nat_tests)

module _ (element : ℕ) (whole : Kind → Bool) (broken : ℕ → Kind → Bool) where
  told-whole : filter (is_told whole broken) (map (error_at element 0) element_kinds) ≡ map (error_at element 0) (filter whole element_kinds)
  told-whole = filter-mapped (is_told whole broken) (error_at element 0) whole (λ kind. refl) element_kinds

  told-at : (c : ℕ) → 0 < c → filter (is_told whole broken) (map (error_at element c) element_kinds) ≡ map (error_at element c) (filter (broken c) element_kinds)
  told-at c h =
      filter-mapped (is_told whole broken) (error_at element c) (broken c)
      (λ kind. ap (λ (b : Bool). cond b (whole kind) (broken c kind)) (above-none c h)) element_kinds

  told-range : (first len : ℕ) → 0 < first → filter (is_told whole broken) (flat_map (λ component. map (error_at element component) element_kinds) (range_with_len first len)) ≡ flat_map (λ component. map (error_at element component) (filter (broken component) element_kinds)) (range_with_len first len)
  told-range first zero h = refl
  told-range first (suc len) h =
      filter-append (is_told whole broken) (map (error_at element first) element_kinds) (flat_map (λ component. map (error_at element component) element_kinds) (range_with_len (first + 1) len))
      ∙ ap (λ (es : List LocalError). es ++ filter (is_told whole broken) (flat_map (λ component. map (error_at element component) element_kinds) (range_with_len (first + 1) len))) (told-at first h)
      ∙ ap (λ (es : List LocalError). map (error_at element first) (filter (broken first) element_kinds) ++ es) (told-range (first + 1) len (omega arith))

  pub told-places : (n : ℕ) → filter (is_told whole broken) (places element n) ≡ map (error_at element 0) (filter whole element_kinds) ++ flat_map (λ component. map (error_at element component) (filter (broken component) element_kinds)) (range_with_len 1 n)
  unfolding places
  told-places n =
      filter-append (is_told whole broken) (map (error_at element 0) element_kinds) (flat_map (λ component. map (error_at element component) element_kinds) (range_with_len 1 n))
      ∙ ap (λ (es : List LocalError). es ++ filter (is_told whole broken) (flat_map (λ component. map (error_at element component) element_kinds) (range_with_len 1 n))) told-whole
      ∙ ap (λ (es : List LocalError). map (error_at element 0) (filter whole element_kinds) ++ es) (told-range 1 n (omega arith))

-- components past the last that has an error add none
module _ {Y : Type 0} (f : ℕ → List Y) where
  past-none : (first len : ℕ) → ((c : ℕ) → first ≤ c → f c ≡ []) → flat_map f (range_with_len first len) ≡ []
  past-none first zero none = refl
  past-none first (suc len) none =
      ap (λ (ys : List Y). ys ++ flat_map f (range_with_len (first + 1) len)) (none first (omega arith))
      ∙ past-none (first + 1) len (λ c h. none c (omega arith))

  pub longer-same : (first len more : ℕ) → len ≤ more → ((c : ℕ) → first + len ≤ c → f c ≡ []) → flat_map f (range_with_len first more) ≡ flat_map f (range_with_len first len)
  longer-same first zero more h none = past-none first more (λ c k. none c (omega arith))
  longer-same first (suc len) zero h none = absurd (omega arith)
  longer-same first (suc len) (suc more) h none =
      ap (λ (ys : List Y). f first ++ ys) (longer-same (first + 1) len more (omega arith) (λ c k. none c (omega arith)))

filter-never : {X : Type 0} (p : X → Bool) (xs : List X) → ((x : X) → p x ≡ false) → filter p xs ≡ []
filter-never p [] never = refl
filter-never p (x ∷ xs) never = ap (λ (b : Bool). cond b (x ∷ filter p xs) (filter p xs)) (never x) ∙ filter-never p xs never

module _ (rules : SegmentRules) where
  part-none : (item : ItemDef) (values : List (List ℕ)) (kind : Kind) → is_broken_part rules item values (None, []) kind ≡ false
  part-none item values TooManyComponents = refl
  part-none item values kind = refl

  -- past its last component no repetition breaks a rule
  pub past-component : (item : ItemDef) (values : List (List ℕ)) (component : ℕ) (kind : Kind) → component_count rules (Some item) values < component → is_broken_at rules (Some item) values component kind ≡ false
  past-component item values component kind past =
      let no_part : slice_get (parts_in rules item) (component - 1) ≡ None = slice_get_past (parts_in rules item) (component - 1) (omega arith) in
      let no_value : value_at values component ≡ [] = ap (λ o. unwrap_or o []) (slice_get_past values (component - 1) (omega arith)) in
      ap (λ o. is_broken_part rules item values (o, value_at values component) kind) no_part
      ∙ ap (λ (v : List ℕ). is_broken_part rules item values (None, v) kind) no_value
      ∙ part-none item values kind

  pub past-components : (item : ItemDef) (repetitions : List (List (List ℕ))) (component : ℕ) (kind : Kind) → last_component rules (Some item) repetitions < component → is_component_broken rules (Some item) repetitions component kind ≡ false
  past-components item [] component kind past = refl
  past-components item (values ∷ more) component kind past =
      ap (λ (b : Bool). b || is_component_broken rules (Some item) more component kind) (past-component item values component kind (omega arith))
      ∙ past-components item more component kind (omega arith)

  -- the errors of an element are those of its places that its repetitions tell
  pub element-told : (item : ItemDef) (repetitions : List (List (List ℕ))) (element n : ℕ) → last_component rules (Some item) repetitions ≤ n → element_errors rules (Some item) repetitions element ≡ filter (is_told (is_element_broken rules (Some item) repetitions) (is_component_broken rules (Some item) repetitions)) (places element n)
  unfolding element_errors
  element-told item repetitions element n within =
      sym (told-places element (is_element_broken rules (Some item) repetitions) (is_component_broken rules (Some item) repetitions) n
      ∙ ap (λ (es : List LocalError). map (error_at element 0) (filter (is_element_broken rules (Some item) repetitions) element_kinds) ++ es)
      (longer-same (λ component. map (error_at element component) (filter (is_component_broken rules (Some item) repetitions component) element_kinds)) 1 (last_component rules (Some item) repetitions) n within
      (λ c past. ap (map (error_at element c)) (filter-never (is_component_broken rules (Some item) repetitions c) element_kinds (λ kind. past-components item repetitions c kind (omega arith))))))

  -- the errors of a repetition are those that it tells by itself
  pub repetition-told : (item : ItemDef) (values : List (List ℕ)) (element n : ℕ) → component_count rules (Some item) values ≤ n → repetition_errors rules (Some item) values element ≡ filter (is_told (is_broken_whole rules (Some item) values) (is_broken_at rules (Some item) values)) (places element n)
  unfolding repetition_errors
  repetition-told item values element n within =
      sym (told-places element (is_broken_whole rules (Some item) values) (is_broken_at rules (Some item) values) n
      ∙ ap (λ (es : List LocalError). es ++ flat_map (λ component. map (error_at element component) (filter (is_broken_at rules (Some item) values component) element_kinds)) (range_with_len 1 n))
      (ap (map (error_at element 0)) (filter-but_last (is_broken_whole rules (Some item) values) repetition_kinds TooManyRepetitions (whole-never rules (Some item) values)))
      ∙ ap (λ (es : List LocalError). map (error_at element 0) (filter (is_broken_whole rules (Some item) values) repetition_kinds) ++ es)
      (longer-same (λ component. map (error_at element component) (filter (is_broken_at rules (Some item) values component) element_kinds)) 1 (component_count rules (Some item) values) n within
      (λ c past. ap (map (error_at element c)) (filter-never (is_broken_at rules (Some item) values c) element_kinds (λ kind. past-component item values c kind (omega arith))))
      ∙ flat_map-same (λ component. map (error_at element component) (filter (is_broken_at rules (Some item) values component) element_kinds)) _ (range_with_len 1 (component_count rules (Some item) values))
      (λ c. ap (map (error_at element c)) (filter-but_last (is_broken_at rules (Some item) values c) repetition_kinds TooManyRepetitions (at-never rules (Some item) values c)))))
