-- The errors of an element that has one repetition, and of one past the last item.
use Rattle.std.proofs.Common.{◌≡◌, ℕ, ◌≤◌, max, Bool, true, false, ◌&&◌, ◌||◌, cond, List, [], ◌∷◌, ◌++◌, map, filter, refl, sym, ap, ◌∙◌, arith}
use Rattle.std.proofs.lemmas.List.{append-nil}
use Rattle.std.proofs.lemmas.Bool.Decides.{nat_tests}
use Rattle.std.proofs.Math.ListN.{drop_of_length-le}
use Rattle.std.specs.Prelude.{Option, Some, None, nat_le}
use Rattle.std.specs.List.{flat_map, list_all, list_any, range_with_len}
use Rattle.edi_tables.specs.Forms.{reps_of}
use Rattle.edi_tables.specs.Rows.{when}
use Rattle.edi_tables.specs.declared.element.PartDef.{PartDef}
use Rattle.edi_tables.specs.declared.segment.ItemDef.{ItemDef}
use Rattle.edi_tables.specs.declared.segment.ItemDef.TheVariants.{Alone, Composite}
use Rattle.error_ledger.specs.declared.kind.Kind.{Kind}
use Rattle.error_ledger.specs.declared.kind.Kind.TheVariants.{Missing, TooManyElements, TooManyRepetitions}
use Rattle.element_check.specs.Local.{component_count, component_errors_at, element_errors, element_kinds, error_at, errors_whole, has_octet, is_broken_at, is_broken_part, is_broken_whole, is_component_broken, is_element_broken, is_repeated_too_often, is_used, last_component, value_at}
use Rattle.element_check.specs.Rules.{SegmentRules}
use Rattle.element_check.specs.Streams.{item_errors, repetition_errors, repetition_kinds}
use Rattle.element_check.proofs.ElementLemmas.{element-item, flat_map-empty, one-kind}

and_false : (b : Bool) → (b && false) ≡ false
and_false true = refl
and_false false = refl

and_true : (b : Bool) → (b && true) ≡ b
and_true true = refl
and_true false = refl

or_false : (b : Bool) → (b || false) ≡ b
or_false true = refl
or_false false = refl

module _ {X : Type 0} where
  pub filter-same : (f g : X → Bool) (xs : List X) → ((x : X) → f x ≡ g x) → filter f xs ≡ filter g xs
  filter-same f g [] same = refl
  filter-same f g (x ∷ xs) same = ap (λ b. cond b (x ∷ filter f xs) (filter f xs)) (same x) ∙ ap (λ ys. cond (g x) (x ∷ ys) ys) (filter-same f g xs same)

  pub any-never : (xs : List X) → list_any (λ x. false) xs ≡ false
  any-never [] = refl
  any-never (x ∷ xs) = any-never xs

  -- a last member that doesn't pass
  pub filter-but_last : (f : X → Bool) (xs : List X) (x : X) → f x ≡ false → filter f (xs ++ x ∷ []) ≡ filter f xs
  filter-but_last f [] x none = ap (λ b. cond b (x ∷ []) []) none
  filter-but_last f (y ∷ ys) x none = ap (λ zs. cond (f y) (y ∷ zs) zs) (filter-but_last f ys x none)

pub flat_map-same : {X Y : Type 0} (f g : X → List Y) (xs : List X) → ((x : X) → f x ≡ g x) → flat_map f xs ≡ flat_map g xs
flat_map-same f g [] same = refl
flat_map-same f g (x ∷ xs) same = ap (λ ys. ys ++ flat_map f xs) (same x) ∙ ap (λ ys. g x ++ ys) (flat_map-same f g xs same)

module _ (rules : SegmentRules) where
  -- no repetition by itself is one too many
  pub whole-never : (item : Option ItemDef) (values : List (List ℕ)) → is_broken_whole rules item values TooManyRepetitions ≡ false
  whole-never None values = refl
  whole-never (Some (Alone part reps)) values = and_false (has_octet (value_at values 1))
  whole-never (Some (Composite code must reps)) values = refl

  part-never : (item : ItemDef) (values : List (List ℕ)) (p : Option PartDef × List ℕ) → is_broken_part rules item values p TooManyRepetitions ≡ false
  part-never item values (None, value) = refl
  part-never (Alone part reps) values (Some other, value) = refl
  part-never (Composite code must reps) values (Some part, value) = and_false (has_octet value)

  pub at-never : (item : Option ItemDef) (values : List (List ℕ)) (component : ℕ) → is_broken_at rules item values component TooManyRepetitions ≡ false
  at-never None values component = refl
  at-never (Some item) values component = part-never item values _

  -- an item that may be there once isn't repeated too often where it is
  once : (item : ItemDef) (values : List (List ℕ)) → nat_le 1 (reps_of item) ≡ true → is_repeated_too_often (Some item) (values ∷ []) ≡ false
  once item values least =
      let low : 1 ≤ reps_of item = grind (arith, nat_tests) in
      ap (list_any is_used) (drop_of_length-le {A = List (List ℕ)} (values ∷ []) low)

  module _ (item : ItemDef) (values : List (List ℕ)) (least : nat_le 1 (reps_of item) ≡ true) where
    one-broken : (kind : Kind) → is_element_broken rules (Some item) (values ∷ []) kind ≡ is_broken_whole rules (Some item) values kind
    one-broken Missing = and_true (is_broken_whole rules (Some item) values Missing)
    one-broken TooManyRepetitions = once item values least ∙ sym (whole-never (Some item) values)
    one-broken kind = or_false (is_broken_whole rules (Some item) values kind)

    one-broken_at : (component : ℕ) (kind : Kind) → is_component_broken rules (Some item) (values ∷ []) component kind ≡ is_broken_at rules (Some item) values component kind
    one-broken_at component kind = or_false (is_broken_at rules (Some item) values component kind)

    one-whole : (element : ℕ) → errors_whole rules (Some item) (values ∷ []) element ≡ map (error_at element 0) (filter (is_broken_whole rules (Some item) values) repetition_kinds)
    one-whole element =
        ap (map (error_at element 0))
        (filter-same (is_element_broken rules (Some item) (values ∷ [])) (is_broken_whole rules (Some item) values) element_kinds one-broken
        ∙ filter-but_last (is_broken_whole rules (Some item) values) repetition_kinds TooManyRepetitions (whole-never (Some item) values))

    one-at : (element component : ℕ) → component_errors_at rules (Some item) (values ∷ []) element component ≡ map (error_at element component) (filter (is_broken_at rules (Some item) values component) repetition_kinds)
    one-at element component =
        ap (map (error_at element component))
        (filter-same (is_component_broken rules (Some item) (values ∷ []) component) (is_broken_at rules (Some item) values component) element_kinds (one-broken_at component)
        ∙ filter-but_last (is_broken_at rules (Some item) values component) repetition_kinds TooManyRepetitions (at-never (Some item) values component))

    pub element-repetition : (element : ℕ) → element_errors rules (Some item) (values ∷ []) element ≡ repetition_errors rules (Some item) values element
    unfolding element_errors repetition_errors
    element-repetition element =
        let last : max (component_count rules (Some item) values) 0 ≡ component_count rules (Some item) values = omega arith in
        ap (λ es. es ++ flat_map (component_errors_at rules (Some item) (values ∷ []) element) (range_with_len 1 (last_component rules (Some item) (values ∷ [])))) (one-whole element)
        ∙ ap (λ (n : ℕ). map (error_at element 0) (filter (is_broken_whole rules (Some item) values) repetition_kinds) ++ flat_map (component_errors_at rules (Some item) (values ∷ []) element) (range_with_len 1 n)) last
        ∙ ap (λ es. map (error_at element 0) (filter (is_broken_whole rules (Some item) values) repetition_kinds) ++ es)
        (flat_map-same (component_errors_at rules (Some item) (values ∷ []) element) _ (range_with_len 1 (component_count rules (Some item) values)) (one-at element))

-- the errors of an element that has one repetition
pub element-one : (rules : SegmentRules) (item : ItemDef) (values : List (List ℕ)) (element : ℕ) → nat_le 1 (reps_of item) ≡ true → element_errors rules (Some item) (values ∷ []) element ≡ item_errors rules element item values
element-one rules item values element least = element-repetition rules item values least element ∙ element-item rules item values element

-- the errors of an element past the last item, which has a repetition
module _ (rules : SegmentRules) (repetitions : List (List (List ℕ))) (some : list_all (λ values. false) repetitions ≡ false) where
  abbrev surplus_alone : Kind → Bool
  surplus_alone TooManyElements = list_any is_used repetitions
  surplus_alone kind = false

  past-broken : (kind : Kind) → is_element_broken rules None repetitions kind ≡ surplus_alone kind
  past-broken TooManyElements = refl
  past-broken Missing = some
  past-broken TooManyRepetitions = refl
  past-broken kind = any-never repetitions

  past-at : (element component : ℕ) → component_errors_at rules None repetitions element component ≡ []
  past-at element component =
      ap (map (error_at element component)) (filter-same (is_component_broken rules None repetitions component) (λ kind. false) element_kinds (λ kind. any-never repetitions))

  pub element-past : (element : ℕ) → element_errors rules None repetitions element ≡ when (list_any is_used repetitions) (error_at element 0 TooManyElements)
  unfolding element_errors
  element-past element =
      ap (λ es. errors_whole rules None repetitions element ++ es)
      (flat_map-empty (component_errors_at rules None repetitions element) (range_with_len 1 (last_component rules None repetitions)) (past-at element))
      ∙ append-nil (errors_whole rules None repetitions element)
      ∙ ap (map (error_at element 0)) (filter-same (is_element_broken rules None repetitions) surplus_alone element_kinds past-broken)
      ∙ one-kind element 0 TooManyElements (list_any is_used repetitions)
