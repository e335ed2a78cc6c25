-- What a first look shows of the errors of a segment.
use Rattle.std.proofs.Common.{◌≡◌, ◌≢◌, ℕ, ◌+◌, ◌<◌, ◌≤◌, eqb, Bool, true, false, not, ◌&&◌, ◌||◌, cond, List, [], ◌∷◌, ◌++◌, ◌-◌, drop, get_or, length, take, Option, Some, None, refl, sym, ap, ◌∙◌, inl, inr, arith}
use Rattle.std.specs.Prelude.{map, if◌then◌else◌}
use Rattle.std.specs.List.{enumerate_from, filter, flat_map, list_all, list_any}
use Rattle.std.proofs.Math.Seq.{take-length}
use Rattle.std.proofs.lemmas.Bool.{and_parts, cases_Bool, ne_eqb, not-true, or_parts}
use Rattle.std.proofs.lemmas.Bool.Decides.{nat_tests}
use Rattle.std.proofs.lemmas.List.{append_assoc}
use Rattle.edi_tables.specs.Rows.{when}
use Rattle.edi_tables.specs.Tag.{is_tag_of}
use Rattle.edi_tables.specs.declared.element.CodeList.{CodeList}
use Rattle.edi_tables.specs.declared.element.PartDef.{PartDef}
use Rattle.edi_tables.specs.declared.element.Repr.{Repr}
use Rattle.error_ledger.specs.declared.kind.Kind.{Kind}
use Rattle.error_ledger.specs.declared.kind.Kind.TheVariants.{Missing, Repertoire, WrongType, Decimal, TooLong, TooShort}
use Rattle.dir_compile.specs.declared.parts.Parts.{Parts}
use Rattle.seg_lexer.specs.Fields.{Component, PlacedComponent, are_single, component_in, components_in, element_in, is_cut, is_repeat, repetition_in, stretches, unplaced}
use Rattle.seg_lexer.specs.Stretch.{places_that}
use Rattle.seg_lexer.specs.Place.{fields_after, fields_from, repetitions_after}
use Rattle.seg_lexer.specs.Tag.{tag_field, tag_in, tag_of}
use Rattle.seg_lexer.specs.Fields.{IsInOrder}
use Rattle.seg_lexer.specs.declared.context.Context.{Context}
use Rattle.seg_lexer.specs.declared.service.Separators.{Separators}
use Rattle.element_check.specs.Local.{errors_by, errors_tagged, error_at, has_octet, local_errors_of, values_in}
use Rattle.element_check.specs.Rules.{SegmentRules, list_of, rules_of}
use Rattle.element_check.specs.Streams.{after_front, alone_errors, front_values, is_repeatable, items_errors, part_errors, part_rules, parts_errors, surplus_components, told_errors}
use Rattle.element_check.specs.Value.{fails, test_results}
use Rattle.element_check.proofs.BridgeLemmas.{elements-walk}
use Rattle.element_check.proofs.RepetitionLemmas.{front-is}
use Rattle.element_check.proofs.StreamLemmas.{IsNext, alone-next, parts-next, parts_errors-end, told-none}
use Rattle.element_check.specs.declared.error.LocalError.{LocalError}
use Rattle.clean_segments.specs.Start.{plain_rest}
use Rattle.clean_segments.specs.declared.fields.Start.{Start}

-- what comes after the components of an element, where none of it is next
pub front-none : (element : ℕ) (xs : List Component) → front_values element xs ≡ [] → after_front element xs ≡ xs
front-none element [] none = refl
front-none element (x ∷ xs) none = elim (cases_Bool (eqb x.element element)) [
  | inl same ↦
      let some : x.octets ∷ front_values element xs ≡ [] = sym (ap (λ (b : Bool). cond b (x.octets ∷ front_values element xs) []) same) ∙ none in
      absurd (cc)
  | inr other ↦ ap (λ (b : Bool). cond b (after_front element xs) (x ∷ xs)) other
]

same_number : (a b : ℕ) → a ≡ b → eqb a b ≡ true
same_number a b is = grind (arith, nat_tests)

-- the next component belongs to an element
module _ (element : ℕ) (x : Component) (xs : List Component) where
  pub front-here : x.element ≡ element → front_values element (x ∷ xs) ≡ x.octets ∷ front_values element xs
  front-here is = ap (λ (b : Bool). cond b (x.octets ∷ front_values element xs) []) (same_number x.element element is)

  pub after-here : x.element ≡ element → after_front element (x ∷ xs) ≡ after_front element xs
  after-here is = ap (λ (b : Bool). cond b (after_front element xs) (x ∷ xs)) (same_number x.element element is)

-- a component that is to come belongs to the element whose number its place has
module _ (sp : Separators) (xs : List ℕ) (element n : ℕ) (other : eqb element n ≡ false) where
  first-of : (r c a b : ℕ) (cuts : List ℕ) (rest : List PlacedComponent)
      → front_values n (map unplaced (map (component_in sp.release xs element r) (enumerate_from c (stretches a cuts b)) ++ rest)) ≡ []
  unfolding stretches
  first-of r c a b [] rest =
      let x : PlacedComponent = component_in sp.release xs element r (c, record { from = a; to = b }) in
      ap (λ (v : Bool). cond v (x.octets ∷ front_values n (map unplaced rest)) []) other
  first-of r c a b (k ∷ cuts) rest =
      let x : PlacedComponent = component_in sp.release xs element r (c, record { from = a; to = k }) in
      let later : List PlacedComponent = map (component_in sp.release xs element r) (enumerate_from (c + 1) (stretches (k + 1) cuts b)) ++ rest in
      ap (λ (v : Bool). cond v (x.octets ∷ front_values n (map unplaced later)) []) other

  first-repetition : (r c a b : ℕ) (cuts : List ℕ) (rest : List PlacedComponent)
      → front_values n (map unplaced (repetitions_after sp xs element c (enumerate_from r (stretches a cuts b)) ++ rest)) ≡ []
  unfolding stretches
  first-repetition r c a b [] rest =
      ap (λ (fs : List PlacedComponent). front_values n (map unplaced fs)) (append_assoc (components_in sp xs element r (c, record { from = a; to = b })) [] rest)
      ∙ first-of r c a b (places_that (is_cut sp.release xs sp.component) a b) rest
  first-repetition r c a b (k ∷ cuts) rest =
      let later : List PlacedComponent = flat_map (repetition_in sp xs element) (enumerate_from (r + 1) (stretches (k + 1) cuts b)) in
      ap (λ (fs : List PlacedComponent). front_values n (map unplaced fs)) (append_assoc (components_in sp xs element r (c, record { from = a; to = k })) later rest)
      ∙ first-of r c a k (places_that (is_cut sp.release xs sp.component) a k) (later ++ rest)

  first-from : (r c a b : ℕ) (cuts : List ℕ) → front_values n (map unplaced (fields_after sp xs r c (enumerate_from element (stretches a cuts b)))) ≡ []
  unfolding stretches
  first-from r c a b [] = first-repetition r c a b (places_that (is_repeat sp xs element) a b) []
  first-from r c a b (k ∷ cuts) =
      first-repetition r c a k (places_that (is_repeat sp xs element) a k)
      (flat_map (element_in sp xs) (enumerate_from (element + 1) (stretches (k + 1) cuts b)))

-- none of an element is next where the next one begins another
pub front-other : (sp : Separators) (xs : List ℕ) (s : Start) (n : ℕ) → s.element ≢ n → front_values n (plain_rest sp xs (Some s)) ≡ []
unfolding fields_from
front-other sp xs s n other =
    first-from sp xs s.element n (ne_eqb _ _ other) 1 s.component s.at (length xs) (places_that (is_cut sp.release xs sp.element) s.at (length xs))

field_more : (b : Bool) (x : Component) (one other : List Component) → map (λ e. e.octets) one ≡ map (λ e. e.octets) other
    → map (λ e. e.octets) (cond (b && true) (x ∷ one) one) ≡ map (λ e. e.octets) (cond b (x ∷ other) other)
field_more true x one other same = ap (λ (vs : List (List ℕ)). x.octets ∷ vs) same
field_more false x one other same = same

-- where nothing is repeated, the tag field is what element 0 says in its one repetition
field_single : (components : List Component) → are_single components ≡ true → values_in components 0 1 ≡ tag_field components
field_single [] single = refl
field_single (x ∷ xs) single =
    let parts = and_parts (eqb x.repetition 1) (are_single xs) single in
    let one : List Component = filter (λ e. eqb e.element 0 && eqb e.repetition 1) xs in
    ap (λ (b : Bool). map (λ e. e.octets) (cond (eqb x.element 0 && b) (x ∷ one) one)) parts.0
    ∙ field_more (eqb x.element 0) x one (filter (λ e. eqb e.element 0) xs) (field_single xs parts.1)

-- the tag field is one component, which is a tag
pub tagged : (components : List Component) (t : List ℕ) → IsInOrder 0 components → are_single components ≡ true → front_values 0 components ≡ t ∷ [] → is_tag_of t ≡ true → tag_of components ≡ Some t
unfolding tag_of
tagged components t order single field is =
    ap tag_in (sym (front-is 0 components order single ∙ field_single components single) ∙ field)
    ∙ ap (λ (b : Bool). cond (b && true) (Some t) None) is

-- no error of an element is an error of the segment
pub none-wrong : (parts : Parts) (context : Context) (components : List Component) (t : List ℕ) (rules : SegmentRules)
    → IsInOrder 0 components → are_single components ≡ true → list_all is_repeatable rules.items ≡ true → tag_of components ≡ Some t → rules_of parts context t ≡ Some rules
    → items_errors rules 0 rules.items (after_front 0 components) ≡ [] → local_errors_of parts context components ≡ []
unfolding local_errors_of
none-wrong parts context components t rules order single all tag known none =
    ap (errors_tagged parts context components) tag ∙ ap (errors_by components) known ∙ sym (elements-walk rules components all single order) ∙ none

-- a value that passes its tests by a list passes them without one
unlisted : (context : Context) (repr : Repr) (list : Option CodeList) (value : List ℕ)
    → list_any (λ (test : Kind × Bool). test.1) (test_results context repr list value) ≡ false
    → list_any (λ (test : Kind × Bool). test.1) (test_results context repr None value) ≡ false
unlisted context repr list value good =
    let one = or_parts (fails context repr list value Repertoire) _ good in
    let two = or_parts (fails context repr list value WrongType) _ one.1 in
    let three = or_parts (fails context repr list value Decimal) _ two.1 in
    let four = or_parts (fails context repr list value TooLong) _ three.1 in
    let five = or_parts (fails context repr list value TooShort) _ four.1 in
    ap (λ (b : Bool). b || (fails context repr list value WrongType || (fails context repr list value Decimal || (fails context repr list value TooLong || (fails context repr list value TooShort || false))))) one.0
    ∙ ap (λ (b : Bool). b || (fails context repr list value Decimal || (fails context repr list value TooLong || (fails context repr list value TooShort || false)))) two.0
    ∙ ap (λ (b : Bool). b || (fails context repr list value TooLong || (fails context repr list value TooShort || false))) three.0
    ∙ ap (λ (b : Bool). b || (fails context repr list value TooShort || false)) four.0
    ∙ ap (λ (b : Bool). b || false) five.0

good-named : (context : Context) (repr : Repr) (list : Option CodeList) (value : List ℕ) (named : Bool)
    → list_any (λ (test : Kind × Bool). test.1) (test_results context repr list value) ≡ false
    → list_any (λ (test : Kind × Bool). test.1) (test_results context repr (if named then None else list) value) ≡ false
good-named context repr list value true good = unlisted context repr list value good
good-named context repr list value false good = good

module _ (rules : SegmentRules) (element component : ℕ) (part : PartDef) (named : Bool) where
  -- an empty value of a data element that needs none
  pub part-empty : (value : List ℕ) → value ≡ [] → part.must ≡ false → part_errors (part_rules rules named) element component part value ≡ []
  part-empty value empty optional =
      ap (part_errors (part_rules rules named) element component part) empty
      ∙ ap (λ (b : Bool). when b (error_at element component Missing)) optional

  -- a value that passes its tests
  pub part-good : (value : List ℕ) → has_octet value ≡ true
      → list_any (λ (test : Kind × Bool). test.1) (test_results rules.context part.repr (list_of rules part.code.octets) value) ≡ false
      → part_errors (part_rules rules named) element component part value ≡ []
  part-good value filled good =
      ap (λ (b : Bool). cond b (told_errors element component (test_results rules.context part.repr (if named then None else list_of rules part.code.octets) value)) (when part.must (error_at element component Missing))) filled
      ∙ told-none element component (test_results rules.context part.repr (if named then None else list_of rules part.code.octets) value)
      (good-named rules.context part.repr (list_of rules part.code.octets) value named good)

  -- the same, by what was read of it
  pub part-passed : (context : Context) (list : Option CodeList) (value : List ℕ) (empty result : Bool) → context ≡ rules.context → list ≡ list_of rules part.code.octets
      → empty ≡ eqb (length value) 0 → empty ≡ false → result ≡ not (list_any (λ (test : Kind × Bool). test.1) (test_results context part.repr list value)) → result ≡ true
      → part_errors (part_rules rules named) element component part value ≡ []
  part-passed context list value empty result context_is list_is empty_is filled is passed =
      part-good value (ap not (sym empty_is ∙ filled))
      (ap (λ (x : Context). list_any (λ (test : Kind × Bool). test.1) (test_results x part.repr (list_of rules part.code.octets) value)) (sym context_is)
      ∙ ap (λ (l : Option CodeList). list_any (λ (test : Kind × Bool). test.1) (test_results context part.repr l value)) (sym list_is)
      ∙ not-true _ (sym is ∙ passed))

module _ (rules : SegmentRules) (element : ℕ) where
  -- a stand-alone data element with one value, which has no error
  pub alone-clean : (part : PartDef) (vs : List (List ℕ)) (v : List ℕ) (ws : List (List ℕ)) → IsNext vs v ws → part_errors (part_rules rules false) element 0 part v ≡ [] → ws ≡ []
      → alone_errors rules element part vs ≡ []
  alone-clean part vs v ws next good none =
      sym (alone-next rules element part vs v ws next)
      ∙ ap (λ (es : List LocalError). es ++ surplus_components element 2 ws) good
      ∙ ap (surplus_components element 2) none

  -- the parts after one whose value has no error
  pub parts-later : (c : ℕ) (named : Bool) (parts : List PartDef) (i : ℕ) (d : PartDef) (vs : List (List ℕ)) (v : List ℕ) (ws : List (List ℕ)) → i < length parts → IsNext vs v ws
      → part_errors (part_rules rules named) element c (get_or parts i d) v ≡ []
      → parts_errors (part_rules rules named) element (c + 1) (drop (i + 1) parts) ws ≡ parts_errors (part_rules rules named) element c (drop i parts) vs
  parts-later c named parts i d vs v ws within next good =
      sym (ap (λ (es : List LocalError). es ++ parts_errors (part_rules rules named) element (c + 1) (drop (i + 1) parts) ws) good)
      ∙ parts-next rules element c named parts i d vs v ws within next

  -- where all parts are passed, and no value is left
  pub parts-past : (c : ℕ) (named : Bool) (parts : List PartDef) (i : ℕ) (vs : List (List ℕ)) → length parts ≤ i → vs ≡ [] → parts_errors (part_rules rules named) element c (drop i parts) vs ≡ []
  parts-past c named parts i vs past none = sym (parts_errors-end rules element c named parts i vs past) ∙ ap (surplus_components element c) none

  -- the first part, and those after it
  pub parts-begun : (named : Bool) (parts : List PartDef) (d : PartDef) (first : List ℕ) (vs : List (List ℕ)) → 1 ≤ length parts
      → part_errors (part_rules rules named) element 1 (get_or parts 0 d) first ≡ [] → parts_errors (part_rules rules named) element 2 (take (length parts - 1) (drop 1 parts)) vs ≡ []
      → parts_errors (part_rules rules named) element 1 parts (first ∷ vs) ≡ []
  parts-begun named [] d first vs long good none = absurd (omega (arith, long))
  parts-begun named (p ∷ ps) d first vs long good none =
      let last : length (p ∷ ps) - 1 ≡ length ps = omega arith in
      let all : take (length (p ∷ ps) - 1) ps ≡ ps = ap (λ (n : ℕ). take n ps) last ∙ take-length ps in
      ap (λ (es : List LocalError). es ++ parts_errors (part_rules rules named) element 2 ps vs) good
      ∙ sym (ap (λ (qs : List PartDef). parts_errors (part_rules rules named) element 2 qs vs) all) ∙ none
