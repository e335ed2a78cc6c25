-- What is known of the values of a segment that has no local error: those of the first repetitions are good.
use Rattle.std.proofs.Common.{◌≡◌, ℕ, zero, suc, ◌+◌, ◌-◌, ◌<◌, ◌≤◌, Bool, true, false, not, ◌&&◌, ◌||◌, cond, Option, Some, None, List, [], ◌∷◌, ◌++◌, map, get_or, length, refl, sym, ap, ◌∙◌, inl, inr, subst, arith, eqb}
use Rattle.std.specs.Prelude.{filter, max, slice_get, slice_range, unwrap_or}
use Rattle.std.specs.List.{enumerate_from, flat_map, list_all, list_any, range_with_len, zip}
use Rattle.std.specs.Option.{option_map}
use Rattle.std.proofs.lemmas.List.{map-append}
use Rattle.std.proofs.lemmas.Bool.{and_from, cases_Bool, eqb-false, eqb-true, false≢true, or_parts}
use Rattle.std.proofs.lemmas.Option.{slice_get_within}
use Rattle.std.proofs.lemmas.Slice.Eq.{bytes_eq-Decides}
use Rattle.edi_tables.specs.Rows.{has_name}
use Rattle.edi_tables.specs.declared.element.Code.{Code}
use Rattle.edi_tables.specs.declared.element.CodeList.{CodeList}
use Rattle.edi_tables.specs.declared.element.PartDef.{PartDef}
use Rattle.edi_tables.specs.declared.segment.ItemDef.{ItemDef}
use Rattle.edi_tables.specs.declared.segment.ItemDef.TheVariants.{Alone, Composite}
use Rattle.edi_tables.specs.declared.tag.Tag.{Tag}
use Rattle.error_ledger.specs.declared.kind.Kind.{Kind}
use Rattle.error_ledger.specs.declared.kind.Kind.TheVariants.{Decimal, Missing, Repertoire, TooLong, TooShort, WrongType}
use Rattle.dir_compile.specs.declared.parts.Parts.{Parts}
use Rattle.service_tables.specs.ServiceTables.{service_items_of, service_parts_of}
use Rattle.seg_lexer.specs.Context.{context_of}
use Rattle.seg_lexer.specs.Fields.{Component, component_in, components_of, cut, element_in, fields_of, repetition_in, repetitions_in, separators_of, unplaced}
use Rattle.seg_lexer.specs.Released.{value_of}
use Rattle.seg_lexer.specs.Segments.{boundaries_of, ends_of}
use Rattle.seg_lexer.specs.Stretch.{Stretch, octets_in}
use Rattle.seg_lexer.specs.Tag.{tag_of}
use Rattle.seg_lexer.specs.declared.context.Context.{Context}
use Rattle.seg_lexer.specs.declared.service.Separators.{Separators}
use Rattle.seg_lexer.specs.declared.service.Service.{Service}
use Rattle.element_check.specs.Local.{component_errors_at, element_errors, element_kinds, elements_errors, error_at, has_octet, is_broken_part, is_component_broken, is_element_broken, is_used, last_component, last_repetition, last_written, list_in, local_errors_of, repetitions_of, value_at, values_in}
use Rattle.element_check.specs.Rules.{SegmentRules, list_of, parts_of, rules_of, service_rules}
use Rattle.element_check.specs.Value.{fails}
use Rattle.element_check.specs.declared.error.LocalError.{LocalError}
use Rattle.segment_records.specs.Segments.{Segment, segment_between, segments_by, segments_of_text, tag_read, value_in}
use Rattle.text_reading.proofs.Each.{Each}
use Rattle.text_reading.proofs.Items.{IsGoodValue, NoneBroken, Passes, errors-known, none-at, rules_for, value-is}
use Rattle.text_reading.proofs.Numbered.{all_numbered, component_of, first-repetition, numbered, numbered-value, repeated, values-numbered}

-- components are numbered
pub record IsNumbered (components : List Component) : Type 0 where
  pub lists : List (List (List (List ℕ)))
  pub is : components ≡ all_numbered 0 lists

module _ (sp : Separators) (xs : List ℕ) where
  abbrev values_of : List Stretch → List (List ℕ)
  values_of ps = map (λ p. value_of sp.release (octets_in xs p)) ps

  abbrev values_at : Stretch → List (List ℕ)
  values_at p = values_of (cut sp.release xs sp.component p.from p.to)

  abbrev lists_from : ℕ → List Stretch → List (List (List (List ℕ)))
  lists_from n [] = []
  lists_from n (p ∷ ps) = map values_at (repetitions_in sp xs n p) ∷ lists_from (n + 1) ps

  stretches-numbered : (k r a : ℕ) (ps : List Stretch) → map unplaced (map (component_in sp.release xs k r) (enumerate_from a ps)) ≡ map (component_of k r) (enumerate_from a (values_of ps))
  stretches-numbered k r a [] = refl
  stretches-numbered k r a (p ∷ ps) = ap (λ (cs : List Component). component_of k r (a, value_of sp.release (octets_in xs p)) ∷ cs) (stretches-numbered k r (a + 1) ps)

  repetitions-numbered : (k r : ℕ) (ps : List Stretch) → map unplaced (flat_map (repetition_in sp xs k) (enumerate_from r ps)) ≡ repeated k r (map values_at ps)
  repetitions-numbered k r [] = refl
  repetitions-numbered k r (p ∷ ps) =
      map-append unplaced (repetition_in sp xs k (r, p)) (flat_map (repetition_in sp xs k) (enumerate_from (r + 1) ps))
      ∙ (ap (λ (cs : List Component). cs ++ map unplaced (flat_map (repetition_in sp xs k) (enumerate_from (r + 1) ps))) (stretches-numbered k r 1 (cut sp.release xs sp.component p.from p.to))
      ∙ ap (λ (cs : List Component). numbered k (r, values_at p) ++ cs) (repetitions-numbered k (r + 1) ps))

  elements-numbered : (n : ℕ) (ps : List Stretch) → map unplaced (flat_map (element_in sp xs) (enumerate_from n ps)) ≡ all_numbered n (lists_from n ps)
  elements-numbered n [] = refl
  elements-numbered n (p ∷ ps) =
      map-append unplaced (element_in sp xs (n, p)) (flat_map (element_in sp xs) (enumerate_from (n + 1) ps))
      ∙ (ap (λ (cs : List Component). cs ++ map unplaced (flat_map (element_in sp xs) (enumerate_from (n + 1) ps))) (repetitions-numbered n 1 (repetitions_in sp xs n p))
      ∙ ap (λ (cs : List Component). repeated n 1 (map values_at (repetitions_in sp xs n p)) ++ cs) (elements-numbered (n + 1) ps))

  components-numbered : IsNumbered (components_of sp xs)
  unfolding fields_of
  components-numbered = let ps = cut sp.release xs sp.element 0 (length xs) in record { lists = lists_from 0 ps; is = elements-numbered 0 ps }

each-between : (s : Service) (text : List ℕ) (ps : List (ℕ × ℕ)) → Each (λ (x : Segment). IsNumbered x.components) (map (segment_between s text) ps)
each-between s text [] = tt
each-between s text (p ∷ ps) = (components-numbered (separators_of s) (slice_range text (segment_between s text p).start p.1), each-between s text ps)

-- the components of each segment of a text are numbered
pub text-numbered : (text : List ℕ) → Each (λ (s : Segment). IsNumbered s.components) (segments_of_text text)
unfolding segments_of_text segments_by
text-numbered text =
    let s : Service = (context_of text).service in
    each-between s text (zip (boundaries_of s text) (ends_of s text))

-- the tag of components
named-by : (name : List ℕ) (o : Option (List ℕ)) → has_name name (option_map (λ (octets : List ℕ). let t : Tag = record { octets = octets } in t) o) ≡ true → o ≡ Some name
named-by name None is = absurd (false≢true is)
named-by name (Some v) is = ap (λ (w : List ℕ). Some w) ((bytes_eq-Decides v name).0 is)

pub tag-named : (name : List ℕ) (components : List Component) → has_name name (tag_read components) ≡ true → tag_of components ≡ Some name
tag-named name components is = named-by name (tag_of components) is

-- nothing is put together of nothing
append-left : (xs ys : List LocalError) → xs ++ ys ≡ [] → xs ≡ []
append-left [] ys none = refl
append-left (x ∷ xs) ys none = absurd (let never : ⊥ = cc in never)

append-right : (xs ys : List LocalError) → xs ++ ys ≡ [] → ys ≡ []
append-right [] ys none = none
append-right (x ∷ xs) ys none = absurd (let never : ⊥ = cc in never)

none-kept : (f : Kind → LocalError) (broken : Kind → Bool) (kinds : List Kind) → map f (filter broken kinds) ≡ [] → Each (λ (kind : Kind). broken kind ≡ false) kinds
none-kept f broken [] none = tt
none-kept f broken (k ∷ ks) none = elim (cases_Bool (broken k)) [
  | inl is ↦ absurd (let never : f k ∷ map f (filter broken ks) ≡ [] = sym (ap (λ (b : Bool). map f (cond b (k ∷ filter broken ks) (filter broken ks))) is) ∙ none in let no_error : ⊥ = cc in no_error)
  | inr is ↦ (is, none-kept f broken ks (sym (ap (λ (b : Bool). map f (cond b (k ∷ filter broken ks) (filter broken ks))) is) ∙ none))
]

none-within : (f : ℕ → List LocalError) (a n k : ℕ) → flat_map f (range_with_len a n) ≡ [] → a ≤ k → k < a + n → f k ≡ []
none-within f a zero k none low high = absurd (omega arith)
none-within f a (suc n) k none low high = elim (cases_Bool (eqb a k)) [
  | inl is ↦ ap f (sym (eqb-true a k is)) ∙ append-left (f a) (flat_map f (range_with_len (a + 1) n)) none
  | inr is ↦
      let other : a ≡ k → ⊥ = eqb-false a k is in
      none-within f (a + 1) n k (append-right (f a) (flat_map f (range_with_len (a + 1) n)) none) (omega (arith, other)) (omega arith)
]

-- an element without errors breaks no rule
module _ (rules : SegmentRules) (item : Option ItemDef) (repetitions : List (List (List ℕ))) (e : ℕ) (none : element_errors rules item repetitions e ≡ []) where
  whole-told : NoneBroken (is_element_broken rules item repetitions)
  unfolding element_errors
  whole-told =
      none-kept (error_at e 0) (is_element_broken rules item repetitions) element_kinds
      (append-left (map (error_at e 0) (filter (is_element_broken rules item repetitions) element_kinds)) (flat_map (component_errors_at rules item repetitions e) (range_with_len 1 (last_component rules item repetitions))) none)

  component-told : (c : ℕ) → 1 ≤ c → c ≤ last_component rules item repetitions → NoneBroken (is_component_broken rules item repetitions c)
  unfolding element_errors
  component-told c low high =
      none-kept (error_at e c) (is_component_broken rules item repetitions c) element_kinds
      (none-within (component_errors_at rules item repetitions e) 1 (last_component rules item repetitions) c
      (append-right (map (error_at e 0) (filter (is_element_broken rules item repetitions) element_kinds)) (flat_map (component_errors_at rules item repetitions e) (range_with_len 1 (last_component rules item repetitions))) none)
      low (omega arith))

-- where no later repetition is used, each of them lacks what the first one lacks
lacks-all : (lacks : List (List ℕ) → Bool) (more : List (List (List ℕ))) → ((vs : List (List ℕ)) → is_used vs ≡ false → lacks vs ≡ true) → list_any is_used more ≡ false → list_all lacks more ≡ true
lacks-all lacks [] each none = refl
lacks-all lacks (vs ∷ more) each none =
    let parts = or_parts (is_used vs) (list_any is_used more) none in
    and_from (lacks vs) (list_all lacks more) (each vs parts.0) (lacks-all lacks more each parts.1)

first-has : (lacks : List (List ℕ) → Bool) (vs : List (List ℕ)) (more : List (List (List ℕ))) → ((ws : List (List ℕ)) → is_used ws ≡ false → lacks ws ≡ true) → list_any is_used more ≡ false
    → list_all lacks (vs ∷ more) ≡ false → lacks vs ≡ false
first-has lacks vs more each unused none = elim (cases_Bool (lacks vs)) [
  | inl is ↦ absurd (false≢true (sym none ∙ and_from (lacks vs) (list_all lacks more) is (lacks-all lacks more each unused)))
  | inr is ↦ is
]

-- a filled value that fails no test
test-passed : (filled failed : Bool) → (filled && failed) ≡ false → filled ≡ true → failed ≡ false
test-passed true failed none is = none
test-passed false failed none is = absurd (false≢true is)

has-it : (must : Bool) (v : List ℕ) → (must && not (has_octet v)) ≡ false → must ≡ true → has_octet v ≡ true
has-it must v none need = elim (cases_Bool (has_octet v)) [
  | inl is ↦ is
  | inr is ↦ absurd (false≢true (sym none ∙ and_from must (not (has_octet v)) need (ap not is)))
]

module _ (context : Context) (items : List ItemDef) where
  abbrev rules : SegmentRules
  rules = rules_for context items

  abbrev is_failed_as : PartDef → Option CodeList → List ℕ → Kind → Bool
  is_failed_as part list v kind = has_octet v && fails context part.repr list v kind

  -- a value that fails no test
  told-passes : (part : PartDef) (list : Option CodeList) (v : List ℕ) → Each (λ (kind : Kind). is_failed_as part list v kind ≡ false) (Repertoire ∷ WrongType ∷ Decimal ∷ TooLong ∷ TooShort ∷ []) → has_octet v ≡ true
      → Passes context part.repr v
  told-passes part list v none some = record {
    admitted = test-passed (has_octet v) (fails context part.repr list v Repertoire) none.0 some;
    typed = test-passed (has_octet v) (fails context part.repr list v WrongType) none.1.0 some;
    number = test-passed (has_octet v) (fails context part.repr list v Decimal) none.1.1.0 some;
    long = test-passed (has_octet v) (fails context part.repr list v TooLong) none.1.1.1.0 some;
    short = test-passed (has_octet v) (fails context part.repr list v TooShort) none.1.1.1.1.0 some;
  }

  first-told : (one more : Bool) → (one || more) ≡ false → one ≡ false
  first-told one more none = (or_parts one more none).0

  alone-told : (part : PartDef) (vs : List (List ℕ)) (more : List (List (List ℕ))) → NoneBroken (is_element_broken rules (Some (Alone part 1)) (vs ∷ more)) → IsGoodValue context part.must part.repr (value_at vs 1)
  alone-told part vs more none =
      let v : List ℕ = value_at vs 1 in
      let list : Option CodeList = list_of rules part.code.octets in
      let unused : list_any is_used more ≡ false = none.1.1.1.1.1.1.1.1.1.0 in
      record {
        filled = λ need. has-it part.must v
            (first-has (λ (ws : List (List ℕ)). part.must && not (has_octet (value_at ws 1))) vs more
            (λ ws empty. and_from part.must (not (has_octet (value_at ws 1))) need (ap not (ap has_octet (value-is ws 1 0 refl) ∙ none-at ws 0 empty)))
            unused none.1.1.0)
            need;
        passes = told-passes part list v (
          first-told (is_failed_as part list v Repertoire) (list_any (λ (ws : List (List ℕ)). is_failed_as part list (value_at ws 1) Repertoire) more) none.1.1.1.0,
          (
            first-told (is_failed_as part list v WrongType) (list_any (λ (ws : List (List ℕ)). is_failed_as part list (value_at ws 1) WrongType) more) none.1.1.1.1.0,
            (
              first-told (is_failed_as part list v Decimal) (list_any (λ (ws : List (List ℕ)). is_failed_as part list (value_at ws 1) Decimal) more) none.1.1.1.1.1.0,
              (
                first-told (is_failed_as part list v TooLong) (list_any (λ (ws : List (List ℕ)). is_failed_as part list (value_at ws 1) TooLong) more) none.1.1.1.1.1.1.0,
                (first-told (is_failed_as part list v TooShort) (list_any (λ (ws : List (List ℕ)). is_failed_as part list (value_at ws 1) TooShort) more) none.1.1.1.1.1.1.1.0, tt),
              ),
            ),
          ),
        );
      }

  -- a mandatory composite is used
  composite-used : (code : Code) (vs : List (List ℕ)) (more : List (List (List ℕ))) → NoneBroken (is_element_broken rules (Some (Composite code true 1)) (vs ∷ more)) → is_used vs ≡ true
  composite-used code vs more none =
      let unused : list_any is_used more ≡ false = none.1.1.1.1.1.1.1.1.1.0 in
      let first : (true && not (is_used vs)) ≡ false = first-has (λ (ws : List (List ℕ)). true && not (is_used ws)) vs more (λ ws empty. ap not empty) unused none.1.1.0 in
      elim (cases_Bool (is_used vs)) [
        | inl is ↦ is
        | inr is ↦ absurd (false≢true (sym first ∙ ap not is))
      ]

  -- and a part of one that is used has a good value
  part-told : (code : Code) (must : Bool) (vs : List (List ℕ)) (more : List (List (List ℕ))) (c : ℕ) (part : PartDef) → is_used vs ≡ true → slice_get (parts_of rules code.octets) (c - 1) ≡ Some part
      → NoneBroken (is_component_broken rules (Some (Composite code must 1)) (vs ∷ more) c) → IsGoodValue context part.must part.repr (value_at vs c)
  part-told code must vs more c part used there none =
      let v : List ℕ = value_at vs c in
      let list : Option CodeList = list_in rules (parts_of rules code.octets) vs part in
      let told : NoneBroken (λ kind. is_broken_part rules (Composite code must 1) vs (Some part, v) kind || list_any (λ (ws : List (List ℕ)). is_broken_part rules (Composite code must 1) ws (Some part, value_at ws c) kind) more) =
      subst (λ (o : Option PartDef). NoneBroken (λ kind. list_any (λ (ws : List (List ℕ)). is_broken_part rules (Composite code must 1) ws (o, value_at ws c) kind) (vs ∷ more))) there none in
      let other : Kind → Bool = λ kind. list_any (λ (ws : List (List ℕ)). is_broken_part rules (Composite code must 1) ws (Some part, value_at ws c) kind) more in
      record {
        filled = λ need. has-it (is_used vs && part.must) v (first-told (is_used vs && part.must && not (has_octet v)) (other Missing) told.1.1.0) (and_from (is_used vs) part.must used need);
        passes = told-passes part list v (
          first-told (is_failed_as part list v Repertoire) (other Repertoire) told.1.1.1.0,
          (
            first-told (is_failed_as part list v WrongType) (other WrongType) told.1.1.1.1.0,
            (
              first-told (is_failed_as part list v Decimal) (other Decimal) told.1.1.1.1.1.0,
              (first-told (is_failed_as part list v TooLong) (other TooLong) told.1.1.1.1.1.1.0, (first-told (is_failed_as part list v TooShort) (other TooShort) told.1.1.1.1.1.1.1.0, tt)),
            ),
          ),
        );
      }

-- a segment of these items without a local error
module _ (dir : Parts) (context : Context) (components : List Component) (numbered : IsNumbered components) (tag : List ℕ) (items : List ItemDef)
    (tagged : tag_of components ≡ Some tag) (known : service_items_of tag ≡ Some items) (none : local_errors_of dir context components ≡ []) where
  elements-none : elements_errors (rules_for context items) components ≡ []
  unfolding rules_of
  elements-none = errors-known dir context components tag (rules_for context items) tagged (ap (service_rules dir context tag) known) ∙ none

  abbrev first : ℕ → List (List ℕ)
  first i = values_in components (suc i) 1

  abbrev more : ℕ → List (List (List ℕ))
  more i = map (values_in components (suc i)) (range_with_len 2 (last_repetition components (suc i) - 1))

  at-item : (i : ℕ) (item : ItemDef) → slice_get items i ≡ Some item → element_errors (rules_for context items) (Some item) (first i ∷ more i) (suc i) ≡ []
  unfolding elements_errors
  at-item i item at =
      let within = slice_get_within items i item at in
      let f : ℕ → List LocalError = λ element. element_errors (rules_for context items) (slice_get items (element - 1)) (repetitions_of components element) element in
      let here : f (suc i) ≡ [] = none-within f 1 (max (length items) (last_written components)) (suc i) elements-none (omega arith) (omega arith) in
      sym (ap (λ (o : Option ItemDef). element_errors (rules_for context items) o (repetitions_of components (suc i)) (suc i)) (ap (slice_get items) (let same : suc i - 1 ≡ i = omega arith in same) ∙ at)
      ∙ ap (λ (vss : List (List (List ℕ))). element_errors (rules_for context items) (Some item) vss (suc i)) (first-repetition components (suc i)))
      ∙ here

  value-first : (e c j : ℕ) → c ≡ 1 + j → value_at (values_in components e 1) c ≡ value_in components e c
  value-first e c j at =
      value-is (values_in components e 1) c j at
      ∙ (ap (λ (vs : List (List ℕ)). get_or vs j []) (ap (λ (cs : List Component). values_in cs e 1) numbered.is ∙ values-numbered numbered.lists e)
      ∙ sym (ap (λ (cs : List Component). value_in cs e c) numbered.is ∙ numbered-value numbered.lists e c j at))

  pub alone-good : (i : ℕ) (part : PartDef) → slice_get items i ≡ Some (Alone part 1) → IsGoodValue context part.must part.repr (value_in components (suc i) 1)
  alone-good i part at =
      subst (IsGoodValue context part.must part.repr) (value-first (suc i) 1 0 refl)
      (alone-told context items part (first i) (more i) (whole-told (rules_for context items) (Some (Alone part 1)) (first i ∷ more i) (suc i) (at-item i (Alone part 1) at)))

  abbrev parts : Code → List PartDef
  parts code = parts_of (rules_for context items) code.octets

  parts-are : (code : Code) (defined : List PartDef) → service_parts_of context.version code.octets ≡ Some defined → parts code ≡ defined
  unfolding parts_of
  parts-are code defined is = ap (λ (o : Option (List PartDef)). unwrap_or o []) is

  used-good : (i j c : ℕ) (code : Code) (must : Bool) (defined : List PartDef) (part : PartDef) → slice_get items i ≡ Some (Composite code must 1) → service_parts_of context.version code.octets ≡ Some defined
      → slice_get defined j ≡ Some part → c ≡ 1 + j → is_used (first i) ≡ true → IsGoodValue context part.must part.repr (value_in components (suc i) c)
  used-good i j c code must defined part at is there same used =
      let here : slice_get (parts code) j ≡ Some part = ap (λ (ps : List PartDef). slice_get ps j) (parts-are code defined is) ∙ there in
      let within = slice_get_within (parts code) j part here in
      subst (IsGoodValue context part.must part.repr) (value-first (suc i) c j same)
      (part-told context items code must (first i) (more i) c part used (ap (slice_get (parts code)) (let last : c - 1 ≡ j = omega arith in last) ∙ here)
      (component-told (rules_for context items) (Some (Composite code must 1)) (first i ∷ more i) (suc i) (at-item i (Composite code must 1) at) c (omega arith) (omega arith)))

  pub part-good : (i j c : ℕ) (code : Code) (defined : List PartDef) (part : PartDef) → slice_get items i ≡ Some (Composite code true 1) → service_parts_of context.version code.octets ≡ Some defined → slice_get defined j ≡ Some part → c ≡ 1 + j
      → IsGoodValue context part.must part.repr (value_in components (suc i) c)
  part-good i j c code defined part at is there same =
      used-good i j c code true defined part at is there same
      (composite-used context items code (first i) (more i) (whole-told (rules_for context items) (Some (Composite code true 1)) (first i ∷ more i) (suc i) (at-item i (Composite code true 1) at)))

  filled-used : (vs : List (List ℕ)) (c j : ℕ) → c ≡ 1 + j → has_octet (value_at vs c) ≡ true → is_used vs ≡ true
  filled-used vs c j at some = elim (cases_Bool (is_used vs)) [
    | inl is ↦ is
    | inr is ↦ absurd (false≢true (sym (ap has_octet (value-is vs c j at) ∙ none-at vs j is) ∙ some))
  ]

  -- a conditional composite has such values where this one is filled
  pub part-filled : (i j c : ℕ) (code : Code) (defined : List PartDef) (part : PartDef) → slice_get items i ≡ Some (Composite code false 1) → service_parts_of context.version code.octets ≡ Some defined → slice_get defined j ≡ Some part → c ≡ 1 + j
      → has_octet (value_in components (suc i) c) ≡ true → IsGoodValue context part.must part.repr (value_in components (suc i) c)
  part-filled i j c code defined part at is there same some =
      used-good i j c code false defined part at is there same (filled-used (first i) c j same (ap has_octet (value-first (suc i) c j same) ∙ some))
