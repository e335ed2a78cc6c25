-- The errors of a segment, one component after another.
use Rattle.std.proofs.Common.{◌≡◌, ℕ, suc, ◌+◌, ◌<◌, ◌≤◌, ltb, eqb, Bool, true, false, not, ◌&&◌, ◌||◌, cond, List, [], ◌∷◌, ◌++◌, drop, get_or, length, refl, sym, ap, ◌∙◌, arith, add-one}
use Rattle.std.proofs.Math.ListN.{drop_of_length-le}
use Rattle.std.proofs.Math.Nat.{le_refl}
use Rattle.std.proofs.Math.Seq.{drop-cons}
use Rattle.std.proofs.lemmas.Bool.{or_parts}
use Rattle.std.proofs.lemmas.Bool.Decides.{nat_tests}
use Rattle.std.specs.Prelude.{Option, Some, None, MatchOption, unwrap_or, if◌then◌else◌}
use Rattle.std.specs.List.{list_any}
use Rattle.std.specs.Option.{option_map}
use Rattle.edi_tables.specs.Rows.{when}
use Rattle.edi_tables.specs.declared.element.CodeList.{CodeList}
use Rattle.edi_tables.specs.declared.element.PartDef.{PartDef}
use Rattle.edi_tables.specs.declared.segment.ItemDef.{ItemDef}
use Rattle.error_ledger.specs.declared.kind.Kind.{Kind}
use Rattle.error_ledger.specs.declared.kind.Kind.TheVariants.{TooManyElements, TooManyComponents, Missing}
use Rattle.seg_lexer.specs.Fields.{Component}
use Rattle.seg_lexer.specs.declared.context.Context.{Context}
use Rattle.element_check.specs.Local.{element_errors, error_at, has_octet, is_list_named, names_list, repetitions_of}
use Rattle.element_check.specs.Rules.{SegmentRules, list_of}
use Rattle.element_check.specs.Streams.{after_front, after_run, alone_errors, first_value, front_run, front_values, is_of, item_errors, items_errors, later_values, part_errors, part_rules, parts_errors, is_filled_component, repeated_errors, surplus_components, surplus_elements, told_errors}
use Rattle.element_check.specs.Value.{test_results}
use Rattle.element_check.specs.declared.error.LocalError.{LocalError}
use Rattle.element_check.proofs.ErrorsLemmas.{full_step}

-- a list from place i on begins with its member there
pub drop-first : {X : Type 0} (xs : List X) (i : ℕ) (d : X) → i < length xs → drop i xs ≡ get_or xs i d ∷ drop (i + 1) xs
drop-first xs i d within = drop-cons xs i d within ∙ sym (ap (λ n. get_or xs i d ∷ drop n xs) (add-one i))

-- the first value that is left, or an empty one, and the others
pub record IsNext (vs : List (List ℕ)) (v : List ℕ) (ws : List (List ℕ)) : Type 0 where
  pub first : v ≡ first_value vs
  pub later : ws ≡ later_values vs

shorter : (vs : List (List ℕ)) (n : ℕ) → length vs < n → length (later_values vs) < n
shorter [] n h = h
shorter (v ∷ vs) n h = omega arith

pub later_values-shorter : (vs ws : List (List ℕ)) (n : ℕ) → ws ≡ later_values vs → length vs < n → length ws < n
later_values-shorter vs ws n is h = let e : length ws ≡ length (later_values vs) = ap length is in let less = shorter vs n h in omega arith

pub next_value : {V : Type 0} (view : V → List ℕ) (r : Option V) (vs ws : List (List ℕ)) → MatchOption r ((vs ≡ []) × (ws ≡ [])) (λ x. vs ≡ view x ∷ ws) → IsNext vs (unwrap_or (option_map view r) []) ws
next_value view None vs ws h = record { first = sym (ap first_value h.0); later = h.1 ∙ sym (ap later_values h.0) }
next_value view (Some x) vs ws h = record { first = sym (ap first_value h); later = sym (ap later_values h) }

-- no room for the error of a surplus component
pub surplus_components-full : (old now total : List LocalError) (element c : ℕ) (vs : List (List ℕ)) (v : List ℕ) (ws : List (List ℕ)) (empty : Bool)
    → now ++ surplus_components element c vs ≡ old ++ total → vs ≡ v ∷ ws → empty ≡ eqb (length v) 0
    → 4 < length now + length (when (not empty) (error_at element c TooManyComponents)) → 4 < length old + length total
surplus_components-full old now total element c vs v ws empty same steps empty_is full =
    full_step old now _ (surplus_components element (c + 1) ws) total
    (ap (λ (b : Bool). now ++ (when (not b) (error_at element c TooManyComponents) ++ surplus_components element (c + 1) ws)) empty_is
    ∙ sym (ap (λ (xs : List (List ℕ)). now ++ surplus_components element c xs) steps) ∙ same)
    full

-- the next element past the last one is reported
surplus_elements-first : (n : ℕ) (x : Component) (xs : List Component) (empty : Bool) → n < x.element → 0 < x.repetition → empty ≡ eqb (length x.octets) 0 → empty ≡ false
    → surplus_elements n (x ∷ xs) ≡ error_at x.element 0 TooManyElements ∷ surplus_elements x.element xs
surplus_elements-first n x xs empty past numbered empty_is filled =
    let later : ltb n x.element ≡ true = grind (arith, nat_tests) in
    let from_one : ltb 0 x.repetition ≡ true = grind (arith, nat_tests) in
    ap (λ (b : Bool). cond (b && is_filled_component x) (error_at x.element 0 TooManyElements ∷ surplus_elements x.element xs) (surplus_elements n xs)) later
    ∙ ap (λ (b : Bool). cond (b && not (eqb (length x.octets) 0)) (error_at x.element 0 TooManyElements ∷ surplus_elements x.element xs) (surplus_elements n xs)) from_one
    ∙ ap (λ (b : Bool). cond (not b) (error_at x.element 0 TooManyElements ∷ surplus_elements x.element xs) (surplus_elements n xs)) (sym empty_is ∙ filled)

pub surplus_elements-full : (old now total : List LocalError) (n : ℕ) (components : List Component) (x : Component) (xs : List Component) (empty : Bool)
    → now ++ surplus_elements n components ≡ old ++ total → components ≡ x ∷ xs → n < x.element → 0 < x.repetition → empty ≡ eqb (length x.octets) 0 → empty ≡ false
    → 4 < length now + 1 → 4 < length old + length total
surplus_elements-full old now total n components x xs empty same steps past numbered empty_is filled full =
    full_step old now (error_at x.element 0 TooManyElements ∷ []) (surplus_elements x.element xs) total
    (ap (λ (es : List LocalError). now ++ es) (sym (surplus_elements-first n x xs empty past numbered empty_is filled))
    ∙ sym (ap (λ (es : List Component). now ++ surplus_elements n es) steps) ∙ same)
    full

-- the errors of a value that is filled
pub part-filled : (rules : SegmentRules) (element component : ℕ) (part : PartDef) (named : Bool) (v : List ℕ) (empty : Bool) (context : Context) (list : Option CodeList) (results : List (Kind × Bool))
    → context ≡ rules.context → list ≡ (if named then None else list_of rules part.code.octets) → results ≡ test_results context part.repr list v
    → empty ≡ eqb (length v) 0 → empty ≡ false
    → told_errors element component results ≡ part_errors (part_rules rules named) element component part v
part-filled rules element component part named v empty context list results context_is list_is results_is empty_is filled =
    ap (told_errors element component) (results_is ∙ ap (λ (x : Context). test_results x part.repr list v) context_is ∙ ap (λ (l : Option CodeList). test_results rules.context part.repr l v) list_is)
    ∙ sym (ap (λ (b : Bool). cond (not b) (told_errors element component (test_results rules.context part.repr (if named then None else list_of rules part.code.octets) v)) (when part.must (error_at element component Missing))) (sym empty_is ∙ filled))

module _ (rules : SegmentRules) (element : ℕ) where
  -- the errors of a stand-alone data element, first value and others
  pub alone-next : (part : PartDef) (vs : List (List ℕ)) (v : List ℕ) (ws : List (List ℕ)) → IsNext vs v ws
      → part_errors (part_rules rules false) element 0 part v ++ surplus_components element 2 ws ≡ alone_errors rules element part vs
  alone-next part vs v ws next =
      ap (λ (x : List ℕ). part_errors (part_rules rules false) element 0 part x ++ surplus_components element 2 ws) next.first
      ∙ ap (λ (xs : List (List ℕ)). part_errors (part_rules rules false) element 0 part (first_value vs) ++ surplus_components element 2 xs) next.later

  -- the errors of the parts from place i on, first value and others
  pub parts-next : (c : ℕ) (named : Bool) (parts : List PartDef) (i : ℕ) (d : PartDef) (vs : List (List ℕ)) (v : List ℕ) (ws : List (List ℕ)) → i < length parts → IsNext vs v ws
      → part_errors (part_rules rules named) element c (get_or parts i d) v ++ parts_errors (part_rules rules named) element (c + 1) (drop (i + 1) parts) ws ≡ parts_errors (part_rules rules named) element c (drop i parts) vs
  parts-next c named parts i d vs v ws within next =
      ap (λ (x : List ℕ). part_errors (part_rules rules named) element c (get_or parts i d) x ++ parts_errors (part_rules rules named) element (c + 1) (drop (i + 1) parts) ws) next.first
      ∙ ap (λ (xs : List (List ℕ)). part_errors (part_rules rules named) element c (get_or parts i d) (first_value vs) ++ parts_errors (part_rules rules named) element (c + 1) (drop (i + 1) parts) xs) next.later
      ∙ ap (λ (ps : List PartDef). parts_errors (part_rules rules named) element c ps vs) (sym (drop-first parts i d within))

-- no part is left
pub parts_errors-end : (rules : SegmentRules) (element c : ℕ) (named : Bool) (parts : List PartDef) (i : ℕ) (vs : List (List ℕ)) → length parts ≤ i
    → surplus_components element c vs ≡ parts_errors (part_rules rules named) element c (drop i parts) vs
parts_errors-end rules element c named parts i vs past = sym (ap (λ (ps : List PartDef). parts_errors (part_rules rules named) element c ps vs) (drop_of_length-le parts past))

-- the kinds from place i on
pub told-next : (element component : ℕ) (ps : List (Kind × Bool)) (i : ℕ) (d : Kind × Bool) → i < length ps
    → when (get_or ps i d).1 (error_at element component (get_or ps i d).0) ++ told_errors element component (drop (i + 1) ps) ≡ told_errors element component (drop i ps)
told-next element component ps i d within = ap (told_errors element component) (sym (drop-first ps i d within))

-- where no component is written, none names a list
pub is_list_named-none : (parts : List PartDef) (values : List (List ℕ)) → values ≡ [] → is_list_named parts values ≡ false
is_list_named-none [] values none = refl
is_list_named-none (part ∷ parts) values none = ap (is_list_named (part ∷ parts)) none

-- a part that names no list, before parts that don't either
head_names_none : (a b : Bool) → (a || b) ≡ false → a ≡ false
head_names_none true b h = absurd (cc)
head_names_none false b h = refl

tail_names_none : (a b : Bool) → (a || b) ≡ false → b ≡ false
tail_names_none true b h = absurd (cc)
tail_names_none false b h = h

-- where no part is for a list's name, no component names a list
pub unnamed_list : (parts : List PartDef) (values : List (List ℕ)) → list_any names_list parts ≡ false → is_list_named parts values ≡ false
unnamed_list [] values none = refl
unnamed_list (part ∷ parts) [] none = refl
unnamed_list (part ∷ parts) (value ∷ values) none =
    let here : names_list part ≡ false = head_names_none (names_list part) (list_any names_list parts) none in
    ap (λ b. (b && has_octet value) || is_list_named parts values) here
    ∙ unnamed_list parts values (tail_names_none (names_list part) (list_any names_list parts) none)

-- the items of the rules, from place i on
pub items-step : (rules : SegmentRules) (n : ℕ) (given : List ItemDef) (i : ℕ) (d : ItemDef) (components : List Component) → given ≡ rules.items → i < length given
    → item_errors rules (n + 1) (get_or given i d) (front_values (n + 1) components) ++ items_errors rules (n + 1) (drop (i + 1) rules.items) (after_front (n + 1) components)
    ≡ items_errors rules n (drop i rules.items) components
items-step rules n given i d components same within =
    ap (λ (is : List ItemDef). item_errors rules (n + 1) (get_or given i d) (front_values (n + 1) components) ++ items_errors rules (n + 1) (drop (i + 1) is) (after_front (n + 1) components)) (sym same)
    ∙ ap (λ (is : List ItemDef). items_errors rules n is components) (sym (drop-first given i d within))
    ∙ ap (λ (is : List ItemDef). items_errors rules n (drop i is) components) same

pub items-end : (rules : SegmentRules) (n : ℕ) (given : List ItemDef) (i : ℕ) (components : List Component) → given ≡ rules.items → length given ≤ i
    → surplus_elements n components ≡ items_errors rules n (drop i rules.items) components
items-end rules n given i components same past =
    sym (ap (λ (is : List ItemDef). items_errors rules n is components) (drop_of_length-le given past))
    ∙ ap (λ (is : List ItemDef). items_errors rules n (drop i is) components) same

-- the same with all repetitions
pub repeated-step : (rules : SegmentRules) (n : ℕ) (given : List ItemDef) (i : ℕ) (d : ItemDef) (components : List Component) → given ≡ rules.items → i < length given
    → element_errors rules (Some (get_or given i d)) (repetitions_of components (n + 1)) (n + 1) ++ repeated_errors rules (n + 1) (drop (i + 1) rules.items) (after_front (n + 1) components)
    ≡ repeated_errors rules n (drop i rules.items) components
repeated-step rules n given i d components same within =
    ap (λ (is : List ItemDef). element_errors rules (Some (get_or given i d)) (repetitions_of components (n + 1)) (n + 1) ++ repeated_errors rules (n + 1) (drop (i + 1) is) (after_front (n + 1) components)) (sym same)
    ∙ ap (λ (is : List ItemDef). repeated_errors rules n is components) (sym (drop-first given i d within))
    ∙ ap (λ (is : List ItemDef). repeated_errors rules n (drop i is) components) same

pub repeated-end : (rules : SegmentRules) (n : ℕ) (given : List ItemDef) (i : ℕ) (components : List Component) → given ≡ rules.items → length given ≤ i
    → surplus_elements n components ≡ repeated_errors rules n (drop i rules.items) components
repeated-end rules n given i components same past =
    sym (ap (λ (is : List ItemDef). repeated_errors rules n is components) (drop_of_length-le given past))
    ∙ ap (λ (is : List ItemDef). repeated_errors rules n (drop i is) components) same

-- an element and what comes after it are no more than what was left
front-cond : (b : Bool) (v : List ℕ) (vs : List (List ℕ)) (n : ℕ) → length vs ≤ n → length (cond b (v ∷ vs) []) ≤ suc n
front-cond true v vs n h = omega arith
front-cond false v vs n h = omega arith

after-cond : (b : Bool) (x : Component) (xs ys : List Component) → length ys ≤ length xs → length (cond b ys (x ∷ xs)) ≤ suc (length xs)
after-cond true x xs ys h = omega arith
after-cond false x xs ys h = le_refl (suc (length xs))

after-length : (element : ℕ) (xs : List Component) → length (after_front element xs) ≤ length xs
after-length element [] = le_refl 0
after-length element (x ∷ xs) = after-cond (eqb x.element element) x xs (after_front element xs) (after-length element xs)

pub after-few : (element n : ℕ) (xs ys : List Component) → ys ≡ after_front element xs → length xs < n → length ys < n
after-few element n xs ys is h =
    let e = after-length element xs in
    let same : length ys ≡ length (after_front element xs) = ap length is in
    omega arith

-- where no value of an element is next, what comes after it is all
after_none-cond : (b : Bool) (v : List ℕ) (vs : List (List ℕ)) (x : Component) (xs ys : List Component) → cond b (v ∷ vs) [] ≡ [] → cond b ys (x ∷ xs) ≡ x ∷ xs
after_none-cond true v vs x xs ys none = absurd (cc)
after_none-cond false v vs x xs ys none = refl

-- nothing is reported where no test was failed
pub told-none : (element component : ℕ) (results : List (Kind × Bool)) → list_any (λ test. test.1) results ≡ false → told_errors element component results ≡ []
told-none element component [] none = refl
told-none element component (p ∷ ps) none =
    let parts = or_parts p.1 (list_any (λ (test : Kind × Bool). test.1) ps) none in
    ap (λ (b : Bool). when b (error_at element component p.0) ++ told_errors element component ps) parts.0 ∙ told-none element component ps parts.1

-- where no value of a repetition is next, what comes after it is all
pub after_run-none : (element r : ℕ) (xs : List Component) → front_run element r xs ≡ [] → after_run element r xs ≡ xs
after_run-none element r [] none = refl
after_run-none element r (x ∷ xs) none = after_none-cond (is_of element r x) x.octets (front_run element r xs) x xs (after_run element r xs) none

run-length : (element r : ℕ) (xs : List Component) → length (front_run element r xs) ≤ length xs
run-length element r [] = le_refl 0
run-length element r (x ∷ xs) = front-cond (is_of element r x) x.octets (front_run element r xs) (length xs) (run-length element r xs)

pub run-few : (element r n : ℕ) (xs : List Component) → length xs < n → length (front_run element r xs) < n
run-few element r n xs h = let e = run-length element r xs in omega arith
