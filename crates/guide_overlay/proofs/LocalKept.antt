-- A segment without a local error by a stricter directory has none by its base: at each place, a rule of a kind that is
-- broken by the base is broken by the stricter directory.
use Rattle.std.proofs.Common.{◌≡◌, ℕ, zero, suc, ◌-◌, ◌≤◌, Bool, true, false, not, List, [], ◌∷◌, ◌&&◌, ◌||◌, Option, Some, None, drop, length, map, inl, inr, refl, sym, ap, subst, ◌∙◌, arith}
use Rattle.std.specs.Prelude.{All, max, slice_get, unwrap_or, if◌then◌else◌, codes}
use Rattle.std.specs.List.{AllZip, flat_map, list_all, list_any, range_with_len}
use Rattle.std.specs.Option.{option_map}
use Rattle.std.specs.Str.{bytes_eq}
use Rattle.std.proofs.lemmas.Bool.{cases_Bool, false≢true, true≢false, and_parts, and_from, not-true, or_left, or_parts, or_right}
use Rattle.std.proofs.lemmas.List.Elements.{All-contains}
use Rattle.std.proofs.lemmas.List.Folds.{list_any_none}
use Rattle.edi_tables.proofs.Faults.{nil-append}
use Rattle.edi_tables.specs.Forms.{reps_of}
use Rattle.edi_tables.specs.Octets.{Octets}
use Rattle.edi_tables.specs.declared.element.CodeList.{CodeList}
use Rattle.edi_tables.specs.declared.element.CompositeDef.{CompositeDef}
use Rattle.edi_tables.specs.declared.element.PartDef.{PartDef}
use Rattle.edi_tables.specs.declared.element.Repr.{Repr}
use Rattle.edi_tables.specs.declared.segment.ItemDef.{ItemDef}
use Rattle.edi_tables.specs.declared.segment.ItemDef.TheVariants.{Alone, Composite}
use Rattle.edi_tables.specs.declared.segment.SegmentDef.{SegmentDef}
use Rattle.dir_compile.specs.declared.parts.Parts.{Parts}
use Rattle.dir_compile.specs.Compile.{composite_name, named_in, segment_name}
use Rattle.error_ledger.specs.declared.kind.Kind.{Kind}
use Rattle.error_ledger.specs.declared.kind.Kind.TheVariants.{Code, Missing, TooManyComponents, TooManyElements, TooManyRepetitions}
use Rattle.seg_lexer.specs.Fields.{Component}
use Rattle.seg_lexer.specs.Tag.{tag_of}
use Rattle.seg_lexer.specs.declared.context.Context.{Context}
use Rattle.service_tables.specs.ServiceTables.{service_items_of}
use Rattle.element_check.specs.Local.{component_count, component_errors_at, element_errors, element_kinds, elements_errors, error_at, errors_by, errors_tagged, errors_whole, has_octet, is_broken_at, is_broken_part, is_broken_whole, is_component_broken, is_element_broken, is_failed, is_list_named, is_repeated_too_often, is_used, last_component, last_written, list_in, local_errors_of, names_list, parts_in, repetitions_of, value_at}
use Rattle.element_check.specs.Rules.{SegmentRules, defined_rules, list_of, parts_of, rules_of, service_rules}
use Rattle.element_check.specs.Value.{fails, is_unlisted}
use Rattle.guide_overlay.specs.Stricter.{BothOr, IsStricter, IsStricterComposite, IsStricterItem, IsStricterList, IsStricterPart, IsStricterSegment}
use Rattle.guide_overlay.proofs.Emptied.{none_joined, none_mapped, passing_emptied, pieces_emptied}

-- related members are at the same places
module _ {A : Type 0} (R : A → A → Type 0) where
  along_at : (xs ys : List A) → AllZip R xs ys → (i : ℕ) → BothOr R (slice_get xs i) (slice_get ys i)
  along_at [] [] along i = tt
  along_at [] (y ∷ ys) along i = absurd along
  along_at (x ∷ xs) [] along i = absurd along
  along_at (x ∷ xs) (y ∷ ys) along zero = along.0
  along_at (x ∷ xs) (y ∷ ys) along (suc i) = along_at xs ys along.1 i

  along_length : (xs ys : List A) → AllZip R xs ys → length ys ≡ length xs
  along_length [] [] along = refl
  along_length [] (y ∷ ys) along = absurd along
  along_length (x ∷ xs) [] along = absurd along
  along_length (x ∷ xs) (y ∷ ys) along = ap suc (along_length xs ys along.1)

-- where some pass a test, some pass one that is passed more often
any_kept : {A : Type 0} (p q : A → Bool) → ((x : A) → p x ≡ true → q x ≡ true) → (xs : List A)
    → list_any p xs ≡ true → list_any q xs ≡ true
any_kept p q each [] some = some
any_kept p q each (x ∷ xs) some = elim (cases_Bool (p x)) [
  | inl passes ↦ or_left (q x) (list_any q xs) (each x passes)
  | inr fails ↦
      let rest : list_any p xs ≡ true = ap (λ b. b || list_any p xs) (sym fails) ∙ some in
      or_right (q x) (list_any q xs) (any_kept p q each xs rest)
]

-- and where all do
all_kept : {A : Type 0} (p q : A → Bool) → ((x : A) → p x ≡ true → q x ≡ true) → (xs : List A)
    → list_all p xs ≡ true → list_all q xs ≡ true
all_kept p q each [] all = all
all_kept p q each (x ∷ xs) all =
    let both = and_parts (p x) (list_all p xs) all in
    and_from (q x) (list_all q xs) (each x both.0) (all_kept p q each xs both.1)

-- where some of the later ones pass, some do of more
more_kept : {A : Type 0} (p : A → Bool) (few most : ℕ) → few ≤ most → (xs : List A)
    → list_any p (drop most xs) ≡ true → list_any p (drop few xs) ≡ true
more_kept p zero zero less xs some = some
more_kept p (suc few) zero less xs some = absurd (omega arith)
more_kept p zero (suc most) less [] some = some
more_kept p (suc few) (suc most) less [] some = some
more_kept p zero (suc most) less (x ∷ xs) some =
    or_right (p x) (list_any p xs) (more_kept p zero most (omega arith) xs some)
more_kept p (suc few) (suc most) less (x ∷ xs) some = more_kept p few most (omega arith) xs some

-- a value that isn't in the base's list isn't in a stricter one
passed_by : (p : Octets → Bool) (xs : List Octets) → list_any p xs ≡ false → All (λ x. p x ≡ false) xs
passed_by p [] none k d within = absurd (omega arith)
passed_by p (x ∷ xs) none zero d within = (or_parts (p x) (list_any p xs) none).0
passed_by p (x ∷ xs) none (suc k) d within = passed_by p xs (or_parts (p x) (list_any p xs) none).1 k d (omega arith)

unlisted_kept : (base list : Option CodeList) (value : Octets) → IsStricterList base list
    → is_unlisted base value ≡ true → is_unlisted list value ≡ true
unlisted_kept None list value stricter broken = absurd (false≢true broken)
unlisted_kept (Some base) None value stricter broken = absurd stricter
unlisted_kept (Some base) (Some list) value stricter broken =
    let test : Octets → Bool = λ code. bytes_eq code value in
    let none : list_any test base.values ≡ false = not-true (list_any test base.values) broken in
    ap not
    (list_any_none test list.values
    (λ k d within. All-contains (λ x. test x ≡ false) base.values _ (passed_by test base.values none) (stricter k d within)))

-- the test of a value, kind by kind: only the code list says more
fails_listed : (context : Context) (repr : Repr) (base list : Option CodeList) (value : Octets) → IsStricterList base list
    → (kind : Kind) → fails context repr base value kind ≡ true → fails context repr list value kind ≡ true
fails_listed context repr base list value stricter Code broken = unlisted_kept base list value stricter broken
fails_listed context repr base list value stricter _ broken = broken

-- the rules of a segment that are no less strict
record AreStricterRules (base rules : SegmentRules) : Type 0 where
  context : rules.context ≡ base.context
  items : AllZip IsStricterItem base.items rules.items
  parts : (code : Octets) → AllZip IsStricterPart (parts_of base code) (parts_of rules code)
  lists : (element : Octets) → IsStricterList (list_of base element) (list_of rules element)

named_same : (parts more : List PartDef) → AllZip IsStricterPart parts more → (values : List Octets)
    → is_list_named more values ≡ is_list_named parts values
named_same [] [] along values = refl
named_same [] (y ∷ ys) along values = absurd along
named_same (x ∷ xs) [] along values = absurd along
named_same (x ∷ xs) (y ∷ ys) along [] = refl
named_same (x ∷ xs) (y ∷ ys) along (value ∷ values) =
    ap (λ code. (bytes_eq code.octets (codes "1131") && has_octet value) || is_list_named ys values) along.0.code
    ∙ ap (λ (b : Bool). (names_list x && has_octet value) || b) (named_same xs ys along.1 values)

listed_kept : (here there : Bool) (base list : Option CodeList) → there ≡ here → IsStricterList base list
    → IsStricterList (if here then None else base) (if there then None else list)
listed_kept true true base list same stricter = tt
listed_kept false false base list same stricter = stricter
listed_kept true false base list same stricter = absurd (false≢true same)
listed_kept false true base list same stricter = absurd (true≢false same)

module _ (base rules : SegmentRules) (stricter : AreStricterRules base rules) where
  failed_kept : (x y : PartDef) → IsStricterPart x y → (one two : Option CodeList) → IsStricterList one two
      → (value : Octets) (kind : Kind) → is_failed base x one value kind ≡ true → is_failed rules y two value kind ≡ true
  failed_kept x y part one two lists value kind broken =
      let both = and_parts (has_octet value) (fails base.context x.repr one value kind) broken in
      let failed : fails base.context x.repr two value kind ≡ true =
      fails_listed base.context x.repr one two value lists kind both.1 in
      and_from (has_octet value) (fails rules.context y.repr two value kind) both.0
      (ap (λ (c : Context). fails c y.repr two value kind) stricter.context
      ∙ ap (λ (r : Repr). fails base.context r two value kind) part.repr ∙ failed)

  list_kept : (x y : PartDef) → IsStricterPart x y
      → IsStricterList (list_of base x.code.octets) (list_of rules y.code.octets)
  list_kept x y part =
      subst (λ code. IsStricterList (list_of base x.code.octets) (list_of rules code.octets)) (sym part.code)
      (stricter.lists x.code.octets)

  -- at an element as a whole
  item_kept : (x y : ItemDef) → IsStricterItem x y → (values : List Octets) (kind : Kind)
      → is_broken_whole base (Some x) values kind ≡ true → is_broken_whole rules (Some y) values kind ≡ true
  item_kept (Alone x most) (Composite code must reps) item values kind broken = absurd item
  item_kept (Composite code must reps) (Alone y most) item values kind broken = absurd item
  item_kept (Alone x most) (Alone y reps) item values TooManyElements broken = broken
  item_kept (Alone x most) (Alone y reps) item values TooManyComponents broken = broken
  item_kept (Alone x most) (Alone y reps) item values Missing broken =
      let both = and_parts x.must (not (has_octet (value_at values 1))) broken in
      and_from y.must (not (has_octet (value_at values 1))) (item.0.must both.0) both.1
  item_kept (Alone x most) (Alone y reps) item values kind broken =
      failed_kept x y item.0 (list_of base x.code.octets) (list_of rules y.code.octets) (list_kept x y item.0)
      (value_at values 1) kind broken
  item_kept (Composite one must most) (Composite two status reps) item values Missing broken =
      let both = and_parts must (not (is_used values)) broken in
      and_from status (not (is_used values)) (item.1 both.0) both.1
  item_kept (Composite one must most) (Composite two status reps) item values _ broken = broken

  whole_kept : (x y : Option ItemDef) → BothOr IsStricterItem x y → (values : List Octets) (kind : Kind)
      → is_broken_whole base x values kind ≡ true → is_broken_whole rules y values kind ≡ true
  whole_kept None None both values kind broken = broken
  whole_kept None (Some y) both values kind broken = absurd both
  whole_kept (Some x) None both values kind broken = absurd both
  whole_kept (Some x) (Some y) both values kind broken = item_kept x y both values kind broken

  -- at a component
  parts_kept : (one two : Octets) → two ≡ one → AllZip IsStricterPart (parts_of base one) (parts_of rules two)
  parts_kept one two same =
      subst (λ code. AllZip IsStricterPart (parts_of base one) (parts_of rules code)) (sym same) (stricter.parts one)

  in_kept : (x y : ItemDef) → IsStricterItem x y → AllZip IsStricterPart (parts_in base x) (parts_in rules y)
  in_kept (Alone x most) (Alone y reps) item = (item.0, tt)
  in_kept (Alone x most) (Composite code must reps) item = absurd item
  in_kept (Composite code must reps) (Alone y most) item = absurd item
  in_kept (Composite one must most) (Composite two status reps) item =
      parts_kept one.octets two.octets (ap (λ code. code.octets) item.0)

  lists_kept : (one two : Octets) → two ≡ one → (values : List Octets) (x y : PartDef) → IsStricterPart x y
      → IsStricterList (list_in base (parts_of base one) values x) (list_in rules (parts_of rules two) values y)
  lists_kept one two same values x y part =
      listed_kept (is_list_named (parts_of base one) values) (is_list_named (parts_of rules two) values)
      (list_of base x.code.octets) (list_of rules y.code.octets)
      (named_same (parts_of base one) (parts_of rules two) (parts_kept one two same) values) (list_kept x y part)

  component_kept : (x y : ItemDef) → IsStricterItem x y → (values : List Octets) (p q : Option PartDef)
      → BothOr IsStricterPart p q → (value : Octets) (kind : Kind)
      → is_broken_part base x values (p, value) kind ≡ true → is_broken_part rules y values (q, value) kind ≡ true
  component_kept x y item values None (Some q) both value kind broken = absurd both
  component_kept x y item values (Some p) None both value kind broken = absurd both
  component_kept x y item values None None both value kind broken = broken
  component_kept (Alone x most) (Composite code must reps) item values (Some p) (Some q) both value kind broken = absurd item
  component_kept (Composite code must reps) (Alone y most) item values (Some p) (Some q) both value kind broken = absurd item
  component_kept (Alone x most) (Alone y reps) item values (Some p) (Some q) both value kind broken = broken
  component_kept (Composite one must most) (Composite two status reps) item values (Some p) (Some q) both value TooManyElements broken = broken
  component_kept (Composite one must most) (Composite two status reps) item values (Some p) (Some q) both value TooManyComponents broken = broken
  component_kept (Composite one must most) (Composite two status reps) item values (Some p) (Some q) both value Missing broken =
      let parts = and_parts (is_used values && p.must) (not (has_octet value)) broken in
      let front = and_parts (is_used values) p.must parts.0 in
      and_from (is_used values && q.must) (not (has_octet value))
      (and_from (is_used values) q.must front.0 (both.must front.1)) parts.1
  component_kept (Composite one must most) (Composite two status reps) item values (Some p) (Some q) both value kind broken =
      failed_kept p q both (list_in base (parts_of base one.octets) values p)
      (list_in rules (parts_of rules two.octets) values q)
      (lists_kept one.octets two.octets (ap (λ code. code.octets) item.0) values p q both) value kind broken

  at_kept : (x y : Option ItemDef) → BothOr IsStricterItem x y → (values : List Octets) (component : ℕ) (kind : Kind)
      → is_broken_at base x values component kind ≡ true → is_broken_at rules y values component kind ≡ true
  at_kept None None both values component kind broken = broken
  at_kept None (Some y) both values component kind broken = absurd both
  at_kept (Some x) None both values component kind broken = absurd both
  at_kept (Some x) (Some y) both values component kind broken =
      component_kept x y both values (slice_get (parts_in base x) (component - 1))
      (slice_get (parts_in rules y) (component - 1))
      (along_at IsStricterPart (parts_in base x) (parts_in rules y) (in_kept x y both) (component - 1))
      (value_at values component) kind broken

  -- a repetition that is too many by the base is too many
  most_kept : (x y : ItemDef) → IsStricterItem x y → reps_of y ≤ reps_of x
  most_kept (Alone x most) (Alone y reps) item = item.1
  most_kept (Alone x most) (Composite code must reps) item = absurd item
  most_kept (Composite code must reps) (Alone y most) item = absurd item
  most_kept (Composite one must most) (Composite two status reps) item = item.2

  often_kept : (x y : Option ItemDef) → BothOr IsStricterItem x y → (repetitions : List (List Octets))
      → is_repeated_too_often x repetitions ≡ true → is_repeated_too_often y repetitions ≡ true
  often_kept None None both repetitions broken = broken
  often_kept None (Some y) both repetitions broken = absurd both
  often_kept (Some x) None both repetitions broken = absurd both
  often_kept (Some x) (Some y) both repetitions broken =
      more_kept is_used (reps_of y) (reps_of x) (most_kept x y both) repetitions broken

  -- over the repetitions of an element
  repeated_kept : (x y : Option ItemDef) → BothOr IsStricterItem x y → (repetitions : List (List Octets)) (kind : Kind)
      → is_element_broken base x repetitions kind ≡ true → is_element_broken rules y repetitions kind ≡ true
  repeated_kept x y both repetitions Missing broken =
      all_kept (λ values. is_broken_whole base x values Missing) (λ values. is_broken_whole rules y values Missing)
      (λ values. whole_kept x y both values Missing) repetitions broken
  repeated_kept x y both repetitions TooManyRepetitions broken = often_kept x y both repetitions broken
  repeated_kept x y both repetitions kind broken =
      any_kept (λ values. is_broken_whole base x values kind) (λ values. is_broken_whole rules y values kind)
      (λ values. whole_kept x y both values kind) repetitions broken

  places_kept : (x y : Option ItemDef) → BothOr IsStricterItem x y → (repetitions : List (List Octets)) (component : ℕ) (kind : Kind)
      → is_component_broken base x repetitions component kind ≡ true → is_component_broken rules y repetitions component kind ≡ true
  places_kept x y both repetitions component kind broken =
      any_kept (λ values. is_broken_at base x values component kind) (λ values. is_broken_at rules y values component kind)
      (λ values. at_kept x y both values component kind) repetitions broken

  -- there are as many components
  count_same : (x y : Option ItemDef) → BothOr IsStricterItem x y → (values : List Octets)
      → component_count rules y values ≡ component_count base x values
  count_same None None both values = refl
  count_same None (Some y) both values = absurd both
  count_same (Some x) None both values = absurd both
  count_same (Some x) (Some y) both values =
      ap (λ (n : ℕ). max n (length values))
      (along_length IsStricterPart (parts_in base x) (parts_in rules y) (in_kept x y both))

  last_same : (x y : Option ItemDef) → BothOr IsStricterItem x y → (repetitions : List (List Octets))
      → last_component rules y repetitions ≡ last_component base x repetitions
  last_same x y both [] = refl
  last_same x y both (values ∷ more) =
      ap (λ (n : ℕ). max n (last_component rules y more)) (count_same x y both values)
      ∙ ap (λ (n : ℕ). max (component_count base x values) n) (last_same x y both more)

  -- an element without an error
  element_kept : (x y : Option ItemDef) → BothOr IsStricterItem x y → (repetitions : List (List Octets)) (element : ℕ)
      → element_errors rules y repetitions element ≡ [] → element_errors base x repetitions element ≡ []
  unfolding element_errors
  element_kept x y both repetitions element none =
      let parts = nil-append (errors_whole rules y repetitions element)
      (flat_map (component_errors_at rules y repetitions element) (range_with_len 1 (last_component rules y repetitions))) none in
      let whole : errors_whole base x repetitions element ≡ [] =
      ap (map (error_at element 0))
      (passing_emptied (is_element_broken base x repetitions) (is_element_broken rules y repetitions) element_kinds
      (repeated_kept x y both repetitions) (none_mapped (error_at element 0) _ parts.0)) in
      none_joined (errors_whole base x repetitions element)
      (flat_map (component_errors_at base x repetitions element) (range_with_len 1 (last_component base x repetitions))) whole
      (pieces_emptied (component_errors_at rules y repetitions element) (component_errors_at base x repetitions element)
      (range_with_len 1 (last_component base x repetitions))
      (λ component free. ap (map (error_at element component))
      (passing_emptied (is_component_broken base x repetitions component) (is_component_broken rules y repetitions component) element_kinds
      (places_kept x y both repetitions component) (none_mapped (error_at element component) _ free)))
      (subst (λ (n : ℕ). flat_map (component_errors_at rules y repetitions element) (range_with_len 1 n) ≡ [])
      (last_same x y both repetitions) parts.1))

  -- a segment without an error
  elements_kept : (components : List Component) → elements_errors rules components ≡ []
      → elements_errors base components ≡ []
  unfolding elements_errors
  elements_kept components none =
      let last : ℕ → ℕ = λ n. max n (last_written components) in
      pieces_emptied
      (λ element. element_errors rules (slice_get rules.items (element - 1)) (repetitions_of components element) element)
      (λ element. element_errors base (slice_get base.items (element - 1)) (repetitions_of components element) element)
      (range_with_len 1 (last (length base.items)))
      (λ element free. element_kept (slice_get base.items (element - 1)) (slice_get rules.items (element - 1))
      (along_at IsStricterItem base.items rules.items stricter.items (element - 1)) (repetitions_of components element) element free)
      (subst (λ (n : ℕ). flat_map (λ element. element_errors rules (slice_get rules.items (element - 1))
      (repetitions_of components element) element) (range_with_len 1 (last n)) ≡ [])
      (along_length IsStricterItem base.items rules.items stricter.items) none)

-- the parts of a composite
composite_along : (x y : Option CompositeDef) → BothOr IsStricterComposite x y
    → AllZip IsStricterPart (unwrap_or (option_map (λ composite. composite.parts) x) [])
    (unwrap_or (option_map (λ composite. composite.parts) y) [])
composite_along None None both = tt
composite_along None (Some y) both = absurd both
composite_along (Some x) None both = absurd both
composite_along (Some x) (Some y) both = both

module _ (base parts : Parts) (strict : IsStricter base parts) (context : Context) (components : List Component) where
  rules_kept : (x y : SegmentDef) → IsStricterSegment x y
      → AreStricterRules (record { context = context; items = x.items; directory = Some base })
      (record { context = context; items = y.items; directory = Some parts })
  unfolding parts_of list_of
  rules_kept x y segment = record {
    context = refl;
    items = segment;
    parts = λ code. composite_along (named_in composite_name base.composites code) (named_in composite_name parts.composites code) (strict.composites code);
    lists = strict.lists;
  }

  defined_kept : (x y : Option SegmentDef) → BothOr IsStricterSegment x y
      → errors_by components (defined_rules parts context y) ≡ [] → errors_by components (defined_rules base context x) ≡ []
  defined_kept None None both none = none
  defined_kept None (Some y) both none = absurd both
  defined_kept (Some x) None both none = absurd both
  defined_kept (Some x) (Some y) both none =
      elements_kept (record { context = context; items = x.items; directory = Some base })
      (record { context = context; items = y.items; directory = Some parts }) (rules_kept x y both) components none

  -- a service segment has one and the same rules
  service_kept : (tag : Octets) (items : Option (List ItemDef))
      → errors_by components (service_rules parts context tag items) ≡ []
      → errors_by components (service_rules base context tag items) ≡ []
  service_kept tag (Some items) none = none
  service_kept tag None none =
      defined_kept (named_in segment_name base.segments tag) (named_in segment_name parts.segments tag) (strict.segments tag) none

  tagged_kept : (tag : Option Octets) → errors_tagged parts context components tag ≡ []
      → errors_tagged base context components tag ≡ []
  unfolding rules_of
  tagged_kept None none = none
  tagged_kept (Some tag) none = service_kept tag (service_items_of tag) none

  -- what has no local error by a stricter directory has none by its base
  pub local_kept : local_errors_of parts context components ≡ [] → local_errors_of base context components ≡ []
  unfolding local_errors_of
  local_kept none = tagged_kept (tag_of components) none
