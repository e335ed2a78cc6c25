-- The errors of a repetition, component after component, are those of each place.
use Rattle.std.proofs.Common.{◌≡◌, ℕ, suc, ◌+◌, ◌-◌, max, Bool, true, false, not, ◌&&◌, ◌||◌, cond, zero, zero-add, List, [], ◌∷◌, ◌++◌, map, filter, length, refl, sym, ap, ◌∙◌, inl, inr, arith}
use Rattle.std.proofs.lemmas.Bool.{cases_Bool}
use Rattle.std.specs.Prelude.{Option, Some, None, slice_get, unwrap_or}
use Rattle.std.specs.List.{flat_map, list_any, range_with_len}
use Rattle.edi_tables.specs.Rows.{when}
use Rattle.edi_tables.specs.declared.element.PartDef.{PartDef}
use Rattle.edi_tables.specs.declared.segment.ItemDef.{ItemDef}
use Rattle.edi_tables.specs.declared.segment.ItemDef.TheVariants.{Alone, Composite}
use Rattle.edi_tables.specs.declared.element.Code.{Code}
use Rattle.error_ledger.specs.declared.kind.Kind.{Kind}
use Rattle.error_ledger.specs.declared.kind.Kind.TheVariants.{TooManyComponents, Missing}
use Rattle.element_check.specs.Local.{error_at, is_broken_part, has_octet, is_list_named, list_in, parts_in, value_at}
use Rattle.element_check.specs.Rules.{SegmentRules, list_of, parts_of}
use Rattle.element_check.specs.Streams.{alone_errors, composite_errors, first_value, item_errors, later_values, part_errors, part_rules, parts_errors, repetition_errors, repetition_errors_at, repetition_errors_whole, repetition_kinds, surplus_components, told_errors}
use Rattle.element_check.specs.Value.{fails, value_kinds}
use Rattle.element_check.specs.declared.error.LocalError.{LocalError}

pub and_false : (b : Bool) → (b && false) ≡ false
and_false true = refl
and_false false = refl

pub and_true : (b : Bool) → (b && true) ≡ b
and_true true = refl
and_true false = refl

none-head : (a b : Bool) → (a || b) ≡ false → a ≡ false
none-head true b h = h
none-head false b h = refl

none-tail : (a b : Bool) → (a || b) ≡ false → b ≡ false
none-tail true b h = absurd (cc)
none-tail false b h = h

append-nil : {X : Type 0} (xs : List X) → xs ++ [] ≡ xs
append-nil [] = refl
append-nil (x ∷ xs) = ap (λ ys. x ∷ ys) (append-nil xs)

pub flat_map-empty : {X Y : Type 0} (f : X → List Y) (xs : List X) → ((x : X) → f x ≡ []) → flat_map f xs ≡ []
flat_map-empty f [] h = refl
flat_map-empty f (x ∷ xs) h = ap (λ ys. ys ++ flat_map f xs) (h x) ∙ flat_map-empty f xs h

-- kinds that are reported are those that are broken
told-filter : (element component : ℕ) (f : Kind → Bool) (ks : List Kind) → told_errors element component (map (λ k. (k, f k)) ks) ≡ map (error_at element component) (filter f ks)
told-filter element component f [] = refl
told-filter element component f (k ∷ ks) =
    ap (λ es. when (f k) (error_at element component k) ++ es) (told-filter element component f ks) ∙ told-one (f k)
  where
    told-one : (b : Bool) → when b (error_at element component k) ++ map (error_at element component) (filter f ks) ≡ map (error_at element component) (cond b (k ∷ filter f ks) (filter f ks))
    told-one true = refl
    told-one false = refl

-- one kind, where it is broken
pub one-kind : (element component : ℕ) (k : Kind) (b : Bool) → map (error_at element component) (cond b (k ∷ []) []) ≡ when b (error_at element component k)
one-kind element component k true = refl
one-kind element component k false = refl

-- the errors of a value, which may be missing
abbrev value_place : ℕ → ℕ → Bool → Bool → (Kind → Bool) → List LocalError
value_place element component missing filled f =
    map (error_at element component) (cond missing (Missing ∷ filter (λ k. filled && f k) value_kinds) (filter (λ k. filled && f k) value_kinds))

abbrev value_told : ℕ → ℕ → Bool → Bool → (Kind → Bool) → List LocalError
value_told element component must filled f =
    cond filled (told_errors element component (map (λ k. (k, f k)) value_kinds)) (when must (error_at element component Missing))

value-place : (element component : ℕ) (must filled : Bool) (f : Kind → Bool) → value_place element component (must && not filled) filled f ≡ value_told element component must filled f
value-place element component true true f = sym (told-filter element component f value_kinds)
value-place element component true false f = refl
value-place element component false true f = sym (told-filter element component f value_kinds)
value-place element component false false f = refl

part-place : (element component : ℕ) (any must filled : Bool) (f : Kind → Bool) → any ≡ true → value_place element component ((any && must) && not filled) filled f ≡ value_told element component must filled f
part-place element component true must filled f h = value-place element component must filled f
part-place element component false true true f h = absurd (cc)
part-place element component false true false f h = absurd (cc)
part-place element component false false true f h = absurd (cc)
part-place element component false false false f h = absurd (cc)

-- values from place i on
abbrev pub HoldsFrom : {X : Type 0} → List X → ℕ → List X → Type 0
HoldsFrom xs i ys = (k : ℕ) → slice_get xs (i + k) ≡ slice_get ys k

pub holds-here : {X : Type 0} (xs : List X) (i : ℕ) (ys : List X) → HoldsFrom xs i ys → slice_get xs (i + 1 - 1) ≡ slice_get ys 0
holds-here xs i ys h = let e : i + 1 - 1 ≡ i + 0 = omega arith in ap (slice_get xs) e ∙ h 0

pub holds-later : {X : Type 0} (xs : List X) (i : ℕ) (y : X) (ys : List X) → HoldsFrom xs i (y ∷ ys) → HoldsFrom xs (i + 1) ys
holds-later xs i y ys h k = let e : i + 1 + k ≡ i + suc k = omega arith in ap (slice_get xs) e ∙ h (suc k)

pub holds-none : {X : Type 0} (xs : List X) (i : ℕ) → HoldsFrom xs i [] → HoldsFrom xs (i + 1) []
holds-none xs i h k = let e : i + 1 + k ≡ i + suc k = omega arith in ap (slice_get xs) e ∙ h (suc k)

holds-values : (xs : List (List ℕ)) (i : ℕ) (ys : List (List ℕ)) → HoldsFrom xs i ys → HoldsFrom xs (i + 1) (later_values ys)
holds-values xs i [] h = holds-none xs i h
holds-values xs i (y ∷ ys) h = holds-later xs i y ys h

first-value : (ys : List (List ℕ)) → unwrap_or (slice_get ys 0) [] ≡ first_value ys
first-value [] = refl
first-value (y ∷ ys) = refl

value-here : (xs : List (List ℕ)) (i : ℕ) (ys : List (List ℕ)) → HoldsFrom xs i ys → value_at xs (i + 1) ≡ first_value ys
value-here xs i ys h = ap (λ o. unwrap_or o []) (holds-here xs i ys h) ∙ first-value ys

module _ (rules : SegmentRules) (item : ItemDef) (values : List (List ℕ)) (element : ℕ) where
  abbrev pub at_place : ℕ → Option PartDef → List LocalError
  at_place component o = map (error_at element component) (filter (is_broken_part rules item values (o, value_at values component)) repetition_kinds)

  -- the components past the last part
  surplus-walk : (i : ℕ) (ws : List (List ℕ)) → HoldsFrom (parts_in rules item) i [] → HoldsFrom values i ws
      → flat_map (repetition_errors_at rules (Some item) values element) (range_with_len (i + 1) (length ws)) ≡ surplus_components element (i + 1) ws
  surplus-walk i [] parts_none values_are = refl
  surplus-walk i (w ∷ ws) parts_none values_are =
      ap (λ o. at_place (i + 1) o ++ flat_map (repetition_errors_at rules (Some item) values element) (range_with_len (i + 1 + 1) (length ws))) (holds-here (parts_in rules item) i [] parts_none)
      ∙ ap (λ es. es ++ flat_map (repetition_errors_at rules (Some item) values element) (range_with_len (i + 1 + 1) (length ws))) (one-kind element (i + 1) TooManyComponents (has_octet (value_at values (i + 1))))
      ∙ ap (λ (v : List ℕ). when (has_octet v) (error_at element (i + 1) TooManyComponents) ++ flat_map (repetition_errors_at rules (Some item) values element) (range_with_len (i + 1 + 1) (length ws))) (value-here values i (w ∷ ws) values_are)
      ∙ ap (λ es. when (has_octet w) (error_at element (i + 1) TooManyComponents) ++ es) (surplus-walk (i + 1) ws (holds-none (parts_in rules item) i parts_none) (holds-later values i w ws values_are))

-- how many components parts and values make, whichever are more
abbrev span : List PartDef → List (List ℕ) → ℕ
span [] ws = length ws
span (p ∷ ps) ws = suc (span ps (later_values ws))

max-span : (ps : List PartDef) (ws : List (List ℕ)) → max (length ps) (length ws) ≡ span ps ws
max-span [] ws = omega arith
max-span (p ∷ ps) [] = let h = max-span ps [] in omega arith
max-span (p ∷ ps) (w ∷ ws) = let h = max-span ps ws in omega arith

module _ (rules : SegmentRules) (code : Code) (must : Bool) (reps : ℕ) (values : List (List ℕ)) (element : ℕ) where
  abbrev composite : ItemDef
  composite = Composite code must reps

  abbrev parts : List PartDef
  parts = parts_of rules code.octets

  abbrev named : Bool
  named = is_list_named parts values

  abbrev results : PartDef → List ℕ → Kind → Bool
  results part value kind = fails rules.context part.repr (list_in rules parts values part) value kind

  -- the parts of a composite and what is past them
  parts-walk : (i : ℕ) (ps : List PartDef) (ws : List (List ℕ)) → list_any has_octet values ≡ true → HoldsFrom parts i ps → HoldsFrom values i ws
      → flat_map (repetition_errors_at rules (Some composite) values element) (range_with_len (i + 1) (span ps ws)) ≡ parts_errors (part_rules rules named) element (i + 1) ps ws
  parts-walk i [] ws any parts_are values_are = surplus-walk rules composite values element i ws parts_are values_are
  parts-walk i (p ∷ ps) ws any parts_are values_are =
      ap (λ o. at_place rules composite values element (i + 1) o ++ flat_map (repetition_errors_at rules (Some composite) values element) (range_with_len (i + 1 + 1) (span ps (later_values ws)))) (holds-here parts i (p ∷ ps) parts_are)
      ∙ ap (λ es. es ++ flat_map (repetition_errors_at rules (Some composite) values element) (range_with_len (i + 1 + 1) (span ps (later_values ws))))
      (part-place element (i + 1) (list_any has_octet values) p.must (has_octet (value_at values (i + 1))) (results p (value_at values (i + 1))) any)
      ∙ ap (λ (v : List ℕ). part_errors (part_rules rules named) element (i + 1) p v ++ flat_map (repetition_errors_at rules (Some composite) values element) (range_with_len (i + 1 + 1) (span ps (later_values ws)))) (value-here values i ws values_are)
      ∙ ap (λ es. part_errors (part_rules rules named) element (i + 1) p (first_value ws) ++ es) (parts-walk (i + 1) ps (later_values ws) any (holds-later parts i p ps parts_are) (holds-values values i ws values_are))

  -- a value of an element without a filled component is empty
  none-filled : (vs : List (List ℕ)) (i : ℕ) → list_any has_octet vs ≡ false → has_octet (unwrap_or (slice_get vs i) []) ≡ false
  none-filled [] i h = refl
  none-filled (v ∷ vs) zero h = none-head (has_octet v) (list_any has_octet vs) h
  none-filled (v ∷ vs) (suc i) h = none-filled vs i (none-tail (has_octet v) (list_any has_octet vs) h)

  empty-place : (component : ℕ) (o : Option PartDef) → list_any has_octet values ≡ false → has_octet (value_at values component) ≡ false → at_place rules composite values element component o ≡ []
  empty-place component None none empty = one-kind element component TooManyComponents (has_octet (value_at values component)) ∙ ap (λ b. when b (error_at element component TooManyComponents)) empty
  empty-place component (Some part) none empty =
      ap (λ (a : Bool). value_place element component ((a && part.must) && not (has_octet (value_at values component))) (has_octet (value_at values component)) (results part (value_at values component))) none
      ∙ ap (λ (b : Bool). value_place element component false b (results part (value_at values component))) empty

  pub element-composite : repetition_errors rules (Some composite) values element ≡ composite_errors rules element must parts values
  unfolding repetition_errors
  element-composite = elim (cases_Bool (list_any has_octet values)) [
    | inl any ↦
        ap (λ es. es ++ flat_map (repetition_errors_at rules (Some composite) values element) (range_with_len 1 (max (length parts) (length values)))) (one-kind element 0 Missing (must && not (list_any has_octet values)))
        ∙ ap (λ (a : Bool). when (must && not a) (error_at element 0 Missing) ++ flat_map (repetition_errors_at rules (Some composite) values element) (range_with_len 1 (max (length parts) (length values)))) any
        ∙ ap (λ (b : Bool). when b (error_at element 0 Missing) ++ flat_map (repetition_errors_at rules (Some composite) values element) (range_with_len 1 (max (length parts) (length values)))) (and_false must)
        ∙ ap (λ (n : ℕ). flat_map (repetition_errors_at rules (Some composite) values element) (range_with_len 1 n)) (max-span parts values)
        ∙ parts-walk 0 parts values any (λ k. ap (slice_get parts) (zero-add k)) (λ k. ap (slice_get values) (zero-add k))
        ∙ sym (ap (λ (a : Bool). cond a (parts_errors (part_rules rules named) element 1 parts values) (when must (error_at element 0 Missing))) any)
    | inr none ↦
        ap (λ es. repetition_errors_whole rules (Some composite) values element ++ es)
        (flat_map-empty (repetition_errors_at rules (Some composite) values element) (range_with_len 1 (max (length parts) (length values)))
        (λ c. empty-place c (slice_get parts (c - 1)) none (none-filled values (c - 1) none)))
        ∙ append-nil (repetition_errors_whole rules (Some composite) values element)
        ∙ one-kind element 0 Missing (must && not (list_any has_octet values))
        ∙ ap (λ (a : Bool). when (must && not a) (error_at element 0 Missing)) none
        ∙ ap (λ (b : Bool). when b (error_at element 0 Missing)) (and_true must)
        ∙ sym (ap (λ (a : Bool). cond a (parts_errors (part_rules rules named) element 1 parts values) (when must (error_at element 0 Missing))) none)
  ]

module _ (rules : SegmentRules) (part : PartDef) (reps : ℕ) (values : List (List ℕ)) (element : ℕ) where
  abbrev alone : ItemDef
  alone = Alone part reps

  first-at : value_at values 1 ≡ first_value values
  first-at = first-value values

  -- past the one part of a stand-alone data element
  alone-walk : (n : ℕ) → n ≡ span (part ∷ []) values → flat_map (repetition_errors_at rules (Some alone) values element) (range_with_len 1 n) ≡ surplus_components element 2 (later_values values)
  alone-walk n is =
      ap (λ (m : ℕ). flat_map (repetition_errors_at rules (Some alone) values element) (range_with_len 1 m)) is
      ∙ surplus-walk rules alone values element 1 (later_values values) (holds-later (part ∷ []) 0 part [] (λ k. ap (slice_get (part ∷ [])) (zero-add k))) (holds-values values 0 values (λ k. ap (slice_get values) (zero-add k)))

  pub element-alone : repetition_errors rules (Some alone) values element ≡ alone_errors rules element part values
  unfolding repetition_errors
  element-alone =
      ap (λ es. es ++ flat_map (repetition_errors_at rules (Some alone) values element) (range_with_len 1 (max 1 (length values))))
      (value-place element 0 part.must (has_octet (value_at values 1)) (fails rules.context part.repr (list_of rules part.code.octets) (value_at values 1)))
      ∙ ap (λ (v : List ℕ). part_errors (part_rules rules false) element 0 part v ++ flat_map (repetition_errors_at rules (Some alone) values element) (range_with_len 1 (max 1 (length values)))) first-at
      ∙ ap (λ es. part_errors (part_rules rules false) element 0 part (first_value values) ++ es) (alone-walk (max 1 (length values)) (max-span (part ∷ []) values))

-- the errors of a repetition of an element that has an item
pub element-item : (rules : SegmentRules) (item : ItemDef) (values : List (List ℕ)) (element : ℕ) → repetition_errors rules (Some item) values element ≡ item_errors rules element item values
element-item rules (Alone part reps) values element = element-alone rules part reps values element
element-item rules (Composite code must reps) values element = element-composite rules code must reps values element
