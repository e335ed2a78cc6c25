-- Segments that are written without local errors: each value passes the tests of its place in a service segment.
use Rattle.std.proofs.Common.{◌≡◌, ◌⊎◌, ℕ, zero, suc, ◌+◌, ◌-◌, ◌≤◌, Bool, true, false, not, ◌&&◌, ◌||◌, cond, eqb, Option, Some, None, List, [], ◌∷◌, ◌++◌, map, get_or, length, refl, sym, ap, ◌∙◌, inl, inr, subst, arith, eqb-true}
use Rattle.std.specs.Prelude.{drop, filter, max, nat_lt, slice_get, unwrap_or, ◌==◌}
use Rattle.std.specs.List.{enumerate_from, flat_map, list_all, list_any, range_with_len}
use Rattle.std.proofs.lemmas.Bool.{and_parts, and_right, cases_Bool, false≢true}
use Rattle.std.proofs.lemmas.List.{append-nil}
use Rattle.std.proofs.lemmas.Option.{unwrap_or-slice_get}
use Rattle.edi_tables.specs.Forms.{reps_of}
use Rattle.edi_tables.specs.Tag.{is_tag_of}
use Rattle.edi_tables.specs.declared.element.Code.{Code}
use Rattle.edi_tables.specs.declared.element.CodeList.{CodeList}
use Rattle.edi_tables.specs.declared.element.PartDef.{PartDef}
use Rattle.edi_tables.specs.declared.element.Repr.{Repr}
use Rattle.edi_tables.specs.declared.segment.ItemDef.{ItemDef}
use Rattle.edi_tables.specs.declared.segment.ItemDef.TheVariants.{Alone, Composite}
use Rattle.error_ledger.specs.declared.kind.Kind.{Kind}
use Rattle.error_ledger.specs.declared.kind.Kind.TheVariants.{Code as KindCode, Decimal, Repertoire, TooLong, TooManyRepetitions, TooShort, WrongType}
use Rattle.dir_compile.specs.declared.parts.Parts.{Parts}
use Rattle.service_tables.specs.ServiceTables.{service_items_of, service_parts_of}
use Rattle.seg_lexer.specs.Fields.{Component}
use Rattle.seg_lexer.specs.Tag.{tag_of}
use Rattle.seg_lexer.specs.declared.context.Context.{Context}
use Rattle.element_check.specs.Local.{component_errors_at, element_errors, element_kinds, elements_errors, error_at, errors_by, errors_tagged, has_octet, is_broken_part, is_component_broken, is_element_broken, is_failed, is_list_named, is_used, last_component, last_written, list_in, local_errors_of, parts_in, repetitions_of, value_at, values_in}
use Rattle.element_check.specs.Repertoire.{is_admitted}
use Rattle.element_check.specs.Rules.{SegmentRules, list_of, parts_of, rules_of, service_rules}
use Rattle.element_check.specs.Value.{counted_length, has_foreign, is_decimal, is_numeric, is_unlisted, value_kinds}
use Rattle.element_check.specs.declared.error.LocalError.{LocalError}
use Rattle.contrl_segments.specs.ReadBack.{component_read, components_read, element_read, values_read}
use Rattle.contrl_segments.specs.Written.{Element, Segment, alone, is_empty_element, is_empty_value, trimmed}
use Rattle.text_reading.proofs.Each.{Each, each-all, each-flat, each-map}
use Rattle.text_reading.proofs.Numbered.{all_numbered, first_list, numbered-tag, single-repetition, values-numbered}

-- the rules of a service segment
abbrev pub rules_for : Context → List ItemDef → SegmentRules
rules_for context items = record { context = context; items = items; directory = None }

-- the errors of a segment whose tag has rules are those of its elements
pub errors-known : (parts : Parts) (context : Context) (components : List Component) (tag : List ℕ) (rules : SegmentRules)
    → tag_of components ≡ Some tag → rules_of parts context tag ≡ Some rules → elements_errors rules components ≡ local_errors_of parts context components
unfolding local_errors_of
errors-known parts context components tag rules tagged known =
    sym (ap (errors_tagged parts context components) tagged ∙ ap (errors_by components) known)

-- a value passes the tests of a representation
pub record Passes (context : Context) (repr : Repr) (value : List ℕ) : Type 0 where
  pub admitted : list_any (λ x. not (is_admitted context.level x)) value ≡ false
  pub typed : has_foreign context.service repr.class value ≡ false
  pub number : (is_numeric repr.class && not (has_foreign context.service repr.class value) && not (is_decimal context.service value)) ≡ false
  pub long : nat_lt repr.max (counted_length context.service repr.class value) ≡ false
  pub short : (repr.exact && nat_lt (counted_length context.service repr.class value) repr.max) ≡ false

-- a value may occur at a part: it is filled where the part is mandatory, and passes the tests where it is filled
pub record IsGoodValue (context : Context) (must : Bool) (repr : Repr) (value : List ℕ) : Type 0 where
  pub filled : must ≡ true → has_octet value ≡ true
  pub passes : has_octet value ≡ true → Passes context repr value

-- the same of the values of a composite, each at its part
abbrev pub AreGoodParts : Context → List PartDef → List (List ℕ) → Type 0
AreGoodParts context [] [] = Unit {0}
AreGoodParts context [] (v ∷ vs) = ⊥
AreGoodParts context (p ∷ ps) [] = (p.must ≡ false) × AreGoodParts context ps []
AreGoodParts context (p ∷ ps) (v ∷ vs) = IsGoodValue context p.must p.repr v × AreGoodParts context ps vs

-- a composite with such values, or one that may be empty and is
abbrev pub IsGoodComposite : Context → Bool → List PartDef → List (List ℕ) → Type 0
IsGoodComposite context must parts vs =
    ((list_any has_octet vs ≡ true) × AreGoodParts context parts vs) ⊎ ((must ≡ false) × (list_any has_octet vs ≡ false))

abbrev pub IsGoodElement : Context → ItemDef → Element → Type 0
IsGoodElement context (Alone part reps) [] = ⊥
IsGoodElement context (Alone part reps) (x ∷ []) = IsGoodValue context part.must part.repr x
IsGoodElement context (Alone part reps) (x ∷ y ∷ ys) = ⊥
IsGoodElement context (Composite code must reps) vs = IsGoodComposite context must (unwrap_or (service_parts_of context.version code.octets) []) vs

abbrev pub is_must : ItemDef → Bool
is_must (Alone part reps) = part.must
is_must (Composite code must reps) = must

-- elements may occur at items; items past the last element are conditional
abbrev pub AreGoodElements : Context → List ItemDef → List Element → Type 0
AreGoodElements context [] [] = Unit {0}
AreGoodElements context [] (e ∷ es) = ⊥
AreGoodElements context (i ∷ is) [] = (is_must i ≡ false) × AreGoodElements context is []
AreGoodElements context (i ∷ is) (e ∷ es) = IsGoodElement context i e × AreGoodElements context is es

-- an empty value has no octet
pub empty-is : (x : List ℕ) → is_empty_value x ≡ true → x ≡ []
empty-is [] is = refl
empty-is (a ∷ more) is = absurd (omega (arith, eqb-true (length (a ∷ more)) 0 is))

-- values as they are read
get-nil : {X : Type 0} (i : ℕ) (d : X) → get_or [] i d ≡ d
get-nil zero d = refl
get-nil (suc i) d = refl

empty-values : (vs : List (List ℕ)) (j : ℕ) → list_all is_empty_value vs ≡ true → get_or vs j [] ≡ []
empty-values [] j all = get-nil j []
empty-values (v ∷ vs) zero all = empty-is v (and_parts (is_empty_value v) (list_all is_empty_value vs) all).0
empty-values (v ∷ vs) (suc j) all = empty-values vs j (and_parts (is_empty_value v) (list_all is_empty_value vs) all).1

empty-elements : (es : List Element) (i j : ℕ) → list_all is_empty_element es ≡ true → get_or (get_or es i []) j [] ≡ []
empty-elements [] i j all = ap (λ (e : Element). get_or e j []) (get-nil i []) ∙ get-nil j []
empty-elements (e ∷ es) zero j all = empty-values e j (and_parts (is_empty_element e) (list_all is_empty_element es) all).0
empty-elements (e ∷ es) (suc i) j all = empty-elements es i j (and_parts (is_empty_element e) (list_all is_empty_element es) all).1

same-next : (v : List ℕ) (ws vs : List (List ℕ)) (j : ℕ) → ((k : ℕ) → get_or ws k [] ≡ get_or vs k []) → get_or (v ∷ ws) j [] ≡ get_or (v ∷ vs) j []
same-next v ws vs zero same = refl
same-next v ws vs (suc j) same = same j

trimmed-values : (vs : List (List ℕ)) (j : ℕ) → get_or (trimmed is_empty_value vs) j [] ≡ get_or vs j []
trimmed-values [] j = refl
trimmed-values (v ∷ vs) j = elim (cases_Bool (list_all is_empty_value (v ∷ vs))) [
  | inl all ↦
      ap (λ (b : Bool). get_or (cond b [] (v ∷ trimmed is_empty_value vs)) j []) all ∙ (get-nil j [] ∙ sym (empty-values (v ∷ vs) j all))
  | inr some ↦ ap (λ (b : Bool). get_or (cond b [] (v ∷ trimmed is_empty_value vs)) j []) some ∙ same-next v (trimmed is_empty_value vs) vs j (trimmed-values vs)
]

read-values : (vs : List (List ℕ)) (j : ℕ) → get_or (values_read vs) j [] ≡ get_or vs j []
read-values [] zero = refl
read-values [] (suc j) = refl
read-values (v ∷ vs) j = refl

abbrev read : Element → List (List ℕ)
read e = values_read (trimmed is_empty_value e)

kept-next : (e : Element) (ks es : List Element) (i j : ℕ) → ((k : ℕ) → get_or (get_or (map read ks) k []) j [] ≡ get_or (get_or es k []) j [])
    → get_or (get_or (map read (e ∷ ks)) i []) j [] ≡ get_or (get_or (e ∷ es) i []) j []
kept-next e ks es zero j same = read-values (trimmed is_empty_value e) j ∙ trimmed-values e j
kept-next e ks es (suc i) j same = same i

-- the value of a component is the one that was written
pub kept-values : (es : List Element) (i j : ℕ) → get_or (get_or (map read (trimmed is_empty_element es)) i []) j [] ≡ get_or (get_or es i []) j []
kept-values [] i j = refl
kept-values (e ∷ es) i j = elim (cases_Bool (list_all is_empty_element (e ∷ es))) [
  | inl all ↦
      ap (λ (b : Bool). get_or (get_or (map read (cond b [] (e ∷ trimmed is_empty_element es))) i []) j []) all
      ∙ (ap (λ (x : Element). get_or x j []) (get-nil i []) ∙ (get-nil j [] ∙ sym (empty-elements (e ∷ es) i j all)))
  | inr some ↦
      ap (λ (b : Bool). get_or (get_or (map read (cond b [] (e ∷ trimmed is_empty_element es))) i []) j []) some ∙ kept-next e (trimmed is_empty_element es) es i j (λ k. kept-values es k j)
]

-- the components of a segment that is written are numbered, and no element of them is repeated
abbrev pub once : List (List ℕ) → List (List (List ℕ))
once vs = vs ∷ []

read-from : (n : ℕ) (es : List Element) → flat_map element_read (enumerate_from n es) ≡ all_numbered n (map (λ e. once (read e)) es)
read-from n [] = refl
read-from n (e ∷ es) =
    ap (λ (cs : List Component). cs ++ flat_map element_read (enumerate_from (n + 1) es)) (sym (append-nil (element_read (n, e))))
    ∙ ap (λ (cs : List Component). (element_read (n, e) ++ []) ++ cs) (read-from (n + 1) es)

alone-read : (x : List ℕ) → read (x ∷ []) ≡ x ∷ []
alone-read x = elim (cases_Bool (is_empty_value x)) [
  | inl is ↦ ap (λ (b : Bool). values_read (cond (b && true) [] (x ∷ []))) is ∙ ap (λ (y : List ℕ). y ∷ []) (sym (empty-is x is))
  | inr some ↦ ap (λ (b : Bool). values_read (cond (b && true) [] (x ∷ []))) some
]

abbrev pub lists_of : Segment → List (List (List (List ℕ)))
lists_of s = once (s.tag ∷ []) ∷ map (λ e. once (read e)) (trimmed is_empty_element s.elements)

pub read-numbered : (s : Segment) → components_read s ≡ all_numbered 0 (lists_of s)
read-numbered s = read-from 0 (alone s.tag ∷ trimmed is_empty_element s.elements)
    ∙ ap (λ (vs : List (List ℕ)). all_numbered 0 (once vs ∷ map (λ e. once (read e)) (trimmed is_empty_element s.elements))) (alone-read s.tag)

first-once : (es : List Element) (i : ℕ) → first_list (get_or (map (λ e. once (read e)) es) i []) ≡ get_or (map read es) i []
first-once [] zero = refl
first-once [] (suc i) = refl
first-once (e ∷ es) zero = refl
first-once (e ∷ es) (suc i) = first-once es i

-- what was written at a component
pub first-kept : (s : Segment) (i j : ℕ) → get_or (first_list (get_or (lists_of s) (suc i) [])) j [] ≡ get_or (get_or s.elements i []) j []
first-kept s i j =
    ap (λ (vs : List (List ℕ)). get_or vs j []) (first-once (trimmed is_empty_element s.elements) i) ∙ kept-values s.elements i j

read-single : (s : Segment) → Each (λ (x : Component). x.repetition ≡ 1) (components_read s)
read-single s =
    let elements = enumerate_from 0 (alone s.tag ∷ trimmed is_empty_element s.elements) in
    each-flat (λ (p : ℕ × Element). Unit {0}) (λ (x : Component). x.repetition ≡ 1) element_read
    (λ p t.
    let values = enumerate_from 1 (values_read (trimmed is_empty_value p.1)) in
    each-map (λ (q : ℕ × List ℕ). Unit {0}) (λ (x : Component). x.repetition ≡ 1) (component_read p.0) (λ q u. refl) values (each-all (λ (q : ℕ × List ℕ). Unit {0}) (λ q. tt) values))
    elements (each-all (λ (p : ℕ × Element). Unit {0}) (λ p. tt) elements)

-- lists of the same values are filled alike
abbrev AreAlike : List (List ℕ) → List (List ℕ) → Type 0
AreAlike vs ws = (j : ℕ) → get_or vs j [] ≡ get_or ws j []

none-filled : (vs : List (List ℕ)) → ((j : ℕ) → get_or vs j [] ≡ []) → list_any has_octet vs ≡ false
none-filled [] empty = refl
none-filled (v ∷ vs) empty = ap (λ (x : List ℕ). has_octet x || list_any has_octet vs) (empty 0) ∙ none-filled vs (λ j. empty (suc j))

filled-alike : (vs ws : List (List ℕ)) → AreAlike vs ws → list_any has_octet vs ≡ list_any has_octet ws
filled-alike [] ws alike = sym (none-filled ws (λ j. sym (alike j) ∙ get-nil j []))
filled-alike (v ∷ vs) [] alike = none-filled (v ∷ vs) (λ j. alike j ∙ get-nil j [])
filled-alike (v ∷ vs) (w ∷ ws) alike =
    ap (λ (x : List ℕ). has_octet x || list_any has_octet vs) (alike 0)
    ∙ ap (λ (b : Bool). has_octet w || b) (filled-alike vs ws (λ j. alike (suc j)))

pub none-at : (vs : List (List ℕ)) (j : ℕ) → list_any has_octet vs ≡ false → has_octet (get_or vs j []) ≡ false
none-at [] zero none = refl
none-at [] (suc j) none = refl
none-at (v ∷ vs) zero none = elim (cases_Bool (has_octet v)) [
  | inl some ↦ absurd (false≢true (sym none ∙ ap (λ (b : Bool). b || list_any has_octet vs) some))
  | inr empty ↦ empty
]
none-at (v ∷ vs) (suc j) none = elim (cases_Bool (has_octet v)) [
  | inl some ↦ absurd (false≢true (sym none ∙ ap (λ (b : Bool). b || list_any has_octet vs) some))
  | inr empty ↦ none-at vs j (sym (ap (λ (b : Bool). b || list_any has_octet vs) empty) ∙ none)
]

-- a component's value by its place
pub value-is : (vs : List (List ℕ)) (c j : ℕ) → c ≡ 1 + j → value_at vs c ≡ get_or vs j []
value-is vs c j at = ap (λ (k : ℕ). unwrap_or (slice_get vs k) []) (let same : c - 1 ≡ j = omega arith in same) ∙ unwrap_or-slice_get vs j []

-- the rules of these kinds aren't broken
abbrev pub NoneBroken : (Kind → Bool) → Type 0
NoneBroken broken = Each (λ (kind : Kind). broken kind ≡ false) element_kinds

filter-none : (broken : Kind → Bool) (kinds : List Kind) → Each (λ (kind : Kind). broken kind ≡ false) kinds → filter broken kinds ≡ []
filter-none broken [] none = refl
filter-none broken (k ∷ ks) none = ap (λ (b : Bool). cond b (k ∷ filter broken ks) (filter broken ks)) none.0 ∙ filter-none broken ks none.1

range-none : (f : ℕ → List LocalError) (a n : ℕ) → 1 ≤ a → ((k : ℕ) → 1 ≤ k → f k ≡ []) → flat_map f (range_with_len a n) ≡ []
range-none f a zero low none = refl
range-none f a (suc n) low none = ap (λ (es : List LocalError). es ++ flat_map f (range_with_len (a + 1) n)) (none a low) ∙ range-none f (a + 1) n (omega arith) none

element-none : (rules : SegmentRules) (item : Option ItemDef) (repetitions : List (List (List ℕ))) (element : ℕ) → NoneBroken (is_element_broken rules item repetitions)
    → ((c : ℕ) → 1 ≤ c → NoneBroken (is_component_broken rules item repetitions c)) → element_errors rules item repetitions element ≡ []
unfolding element_errors
element-none rules item repetitions element whole parts =
    ap (λ (kinds : List Kind). map (error_at element 0) kinds ++ flat_map (component_errors_at rules item repetitions element) (range_with_len 1 (last_component rules item repetitions)))
    (filter-none (is_element_broken rules item repetitions) element_kinds whole)
    ∙ range-none (component_errors_at rules item repetitions element) 1 (last_component rules item repetitions) (omega arith)
    (λ c low. ap (λ (kinds : List Kind). map (error_at element c) kinds) (filter-none (is_component_broken rules item repetitions c) element_kinds (parts c low)))

pub guarded : (a b : Bool) → (a ≡ true → b ≡ false) → (a && b) ≡ false
guarded false b none = refl
guarded true b none = none refl

lacking : (must : Bool) (v : List ℕ) → (must ≡ true → has_octet v ≡ true) → (must && not (has_octet v)) ≡ false
lacking must v filled = guarded must (not (has_octet v)) (λ need. ap not (filled need))

lacking-part : (used must : Bool) (v : List ℕ) → (used ≡ true → must ≡ true → has_octet v ≡ true) → (used && must && not (has_octet v)) ≡ false
lacking-part used must v filled = guarded (used && must) (not (has_octet v)) (λ both. let parts = and_parts used must both in ap not (filled parts.0 parts.1))

module _ (context : Context) (items : List ItemDef) where
  abbrev pub rules : SegmentRules
  rules = rules_for context items

  pub list-none : (named : Bool) (code : List ℕ) → cond named None (list_of rules code) ≡ None
  unfolding list_of
  list-none true code = refl
  list-none false code = refl

  -- a value that passes its tests fails none
  passed : (part : PartDef) (list : Option CodeList) (v : List ℕ) → list ≡ None → (has_octet v ≡ true → Passes context part.repr v)
      → Each (λ (kind : Kind). is_failed rules part list v kind ≡ false) value_kinds
  passed part list v none passes = (
    guarded (has_octet v) (list_any (λ x. not (is_admitted context.level x)) v) (λ some. (passes some).admitted),
    (
      guarded (has_octet v) (has_foreign context.service part.repr.class v) (λ some. (passes some).typed),
      (
        guarded (has_octet v) (is_numeric part.repr.class && not (has_foreign context.service part.repr.class v) && not (is_decimal context.service v)) (λ some. (passes some).number),
        (
          guarded (has_octet v) (nat_lt part.repr.max (counted_length context.service part.repr.class v)) (λ some. (passes some).long),
          (
            guarded (has_octet v) (part.repr.exact && nat_lt (counted_length context.service part.repr.class v) part.repr.max) (λ some. (passes some).short),
            (guarded (has_octet v) (is_unlisted list v) (λ some. ap (λ (l : Option CodeList). is_unlisted l v) none), tt),
          ),
        ),
      ),
    ),
  )

  -- a test of one repetition is one of it alone
  only : (b : Bool) → b ≡ false → (b || false) ≡ false
  only b is = ap (λ (x : Bool). x || false) is

  all_only : (b : Bool) → b ≡ false → (b && true) ≡ false
  all_only b is = ap (λ (x : Bool). x && true) is

  -- past the last item nothing is used
  past-whole : (vs : List (List ℕ)) → is_used vs ≡ false → NoneBroken (is_element_broken rules None (vs ∷ []))
  past-whole vs none = (only (is_used vs) none, (refl, (refl, (refl, (refl, (refl, (refl, (refl, (refl, (refl, tt))))))))))

  past-parts : (vs : List (List ℕ)) (c : ℕ) → NoneBroken (is_component_broken rules None (vs ∷ []) c)
  past-parts vs c = (refl, (refl, (refl, (refl, (refl, (refl, (refl, (refl, (refl, (refl, tt))))))))))

  -- no repetition comes after the only one
  once-often : (item : ItemDef) (vs : List (List ℕ)) → reps_of item ≡ 1 → is_element_broken rules (Some item) (vs ∷ []) TooManyRepetitions ≡ false
  once-often item vs one = ap (λ (n : ℕ). list_any is_used (drop n (vs ∷ []))) one

  -- a stand-alone data element
  alone-whole : (part : PartDef) (reps : ℕ) (vs : List (List ℕ)) → reps ≡ 1 → IsGoodValue context part.must part.repr (value_at vs 1) → NoneBroken (is_element_broken rules (Some (Alone part reps)) (vs ∷ []))
  alone-whole part reps vs one good =
      let v : List ℕ = value_at vs 1 in
      let list : Option CodeList = list_of rules part.code.octets in
      let told = passed part list v (list-none false part.code.octets) good.passes in (
        refl,
        (
          refl,
          (
            all_only (part.must && not (has_octet v)) (lacking part.must v good.filled),
            (
              only (is_failed rules part list v Repertoire) told.0,
              (
                only (is_failed rules part list v WrongType) told.1.0,
                (
                  only (is_failed rules part list v Decimal) told.1.1.0,
                  (
                    only (is_failed rules part list v TooLong) told.1.1.1.0,
                    (
                      only (is_failed rules part list v TooShort) told.1.1.1.1.0,
                      (only (is_failed rules part list v KindCode) told.1.1.1.1.1.0, (once-often (Alone part reps) vs one, tt)),
                    ),
                  ),
                ),
              ),
            ),
          ),
        ),
      )

  -- a component of it, by what is defined there
  surplus-none : (item : ItemDef) (vs : List (List ℕ)) (c : ℕ) → slice_get (parts_in rules item) (c - 1) ≡ None → has_octet (value_at vs c) ≡ false → NoneBroken (is_component_broken rules (Some item) (vs ∷ []) c)
  surplus-none item vs c past none =
      let v : List ℕ = value_at vs c in
      subst (λ (o : Option PartDef). NoneBroken (λ kind. list_any (λ (values : List (List ℕ)). is_broken_part rules item values (o, value_at values c) kind) (vs ∷ []))) (sym past)
      (refl, (only (has_octet v) none, (refl, (refl, (refl, (refl, (refl, (refl, (refl, (refl, tt))))))))))

  alone-first : (part : PartDef) (reps : ℕ) (vs : List (List ℕ)) → NoneBroken (is_component_broken rules (Some (Alone part reps)) (vs ∷ []) 1)
  alone-first part reps vs = (refl, (refl, (refl, (refl, (refl, (refl, (refl, (refl, (refl, (refl, tt))))))))))

  alone-part : (part : PartDef) (reps : ℕ) (vs : List (List ℕ)) (c j : ℕ) → c ≡ 1 + j → ((k : ℕ) → get_or vs (suc k) [] ≡ []) → NoneBroken (is_component_broken rules (Some (Alone part reps)) (vs ∷ []) c)
  alone-part part reps vs c zero at more = subst (λ (n : ℕ). NoneBroken (is_component_broken rules (Some (Alone part reps)) (vs ∷ []) n)) (let same : 1 ≡ c = omega arith in same) (alone-first part reps vs)
  alone-part part reps vs c (suc j) at more =
      surplus-none (Alone part reps) vs c (ap (slice_get (part ∷ [])) (let same : c - 1 ≡ suc j = omega arith in same))
      (ap has_octet (value-is vs c (suc j) at ∙ more j))

  -- a composite
  composite-whole : (code : Code) (must : Bool) (reps : ℕ) (vs : List (List ℕ)) → reps ≡ 1 → (must ≡ true → is_used vs ≡ true) → NoneBroken (is_element_broken rules (Some (Composite code must reps)) (vs ∷ []))
  composite-whole code must reps vs one used = (
    refl,
    (
      refl,
      (
        all_only (must && not (is_used vs)) (guarded must (not (is_used vs)) (λ need. ap not (used need))),
        (refl, (refl, (refl, (refl, (refl, (refl, (once-often (Composite code must reps) vs one, tt))))))),
      ),
    ),
  )

  -- a part of it, with a value that may be there
  composite-part : (code : Code) (must : Bool) (reps : ℕ) (vs : List (List ℕ)) (c : ℕ) (part : PartDef) → slice_get (parts_of rules code.octets) (c - 1) ≡ Some part
      → (is_used vs ≡ true → part.must ≡ true → has_octet (value_at vs c) ≡ true) → (has_octet (value_at vs c) ≡ true → Passes context part.repr (value_at vs c))
      → NoneBroken (is_component_broken rules (Some (Composite code must reps)) (vs ∷ []) c)
  composite-part code must reps vs c part there filled passes =
      let v : List ℕ = value_at vs c in
      let list : Option CodeList = list_in rules (parts_of rules code.octets) vs part in
      let told = passed part list v (list-none (is_list_named (parts_of rules code.octets) vs) part.code.octets) passes in
      subst (λ (o : Option PartDef). NoneBroken (λ kind. list_any (λ (values : List (List ℕ)). is_broken_part rules (Composite code must reps) values (o, value_at values c) kind) (vs ∷ []))) (sym there) (
        refl,
        (
          refl,
          (
            only (is_used vs && part.must && not (has_octet v)) (lacking-part (is_used vs) part.must v filled),
            (
              only (is_failed rules part list v Repertoire) told.0,
              (
                only (is_failed rules part list v WrongType) told.1.0,
                (
                  only (is_failed rules part list v Decimal) told.1.1.0,
                  (
                    only (is_failed rules part list v TooLong) told.1.1.1.0,
                    (
                      only (is_failed rules part list v TooShort) told.1.1.1.1.0,
                      (only (is_failed rules part list v KindCode) told.1.1.1.1.1.0, (only (has_octet v && false) (and_right (has_octet v) false refl), tt)),
                    ),
                  ),
                ),
              ),
            ),
          ),
        ),
      )

  -- the values of parts
  part-none : (ps : List PartDef) (j : ℕ) (part : PartDef) → AreGoodParts context ps [] → slice_get ps j ≡ Some part → part.must ≡ false
  part-none [] j part good at = absurd (let never : ⊥ = cc in never)
  part-none (p ∷ ps) zero part good at = let same : p ≡ part = cc in subst (λ (q : PartDef). q.must ≡ false) same good.0
  part-none (p ∷ ps) (suc j) part good at = part-none ps j part good.1 at

  empty-good : (must : Bool) (repr : Repr) (v : List ℕ) → must ≡ false → v ≡ [] → IsGoodValue context must repr v
  empty-good must repr v free empty = record {
    filled = λ need. absurd (false≢true (sym free ∙ need));
    passes = λ some. absurd (false≢true (sym (ap has_octet empty) ∙ some));
  }

  part-good : (ps : List PartDef) (ws : List (List ℕ)) (j : ℕ) (part : PartDef) → AreGoodParts context ps ws → slice_get ps j ≡ Some part → IsGoodValue context part.must part.repr (get_or ws j [])
  part-good [] [] j part good at = absurd (let never : ⊥ = cc in never)
  part-good [] (w ∷ ws) j part good at = absurd good
  part-good (p ∷ ps) [] j part good at = empty-good part.must part.repr (get_or [] j []) (part-none (p ∷ ps) j part good at) (get-nil j [])
  part-good (p ∷ ps) (w ∷ ws) zero part good at = let same : p ≡ part = cc in subst (λ (q : PartDef). IsGoodValue context q.must q.repr w) same good.0
  part-good (p ∷ ps) (w ∷ ws) (suc j) part good at = part-good ps ws j part good.1 at

  part-past : (ps : List PartDef) (ws : List (List ℕ)) (j : ℕ) → AreGoodParts context ps ws → slice_get ps j ≡ None → get_or ws j [] ≡ []
  part-past [] [] j good past = get-nil j []
  part-past [] (w ∷ ws) j good past = absurd good
  part-past (p ∷ ps) [] j good past = get-nil j []
  part-past (p ∷ ps) (w ∷ ws) zero good past = absurd (let never : ⊥ = cc in never)
  part-past (p ∷ ps) (w ∷ ws) (suc j) good past = part-past ps ws j good.1 past

  -- a component of a composite, by what is defined at its place
  composite-at : (code : Code) (must : Bool) (reps : ℕ) (vs ws : List (List ℕ)) (c j : ℕ) → AreAlike vs ws → IsGoodComposite context must (parts_of rules code.octets) ws → c ≡ 1 + j
      → (o : Option PartDef) → slice_get (parts_of rules code.octets) (c - 1) ≡ o → NoneBroken (is_component_broken rules (Some (Composite code must reps)) (vs ∷ []) c)
  composite-at code must reps vs ws c j alike (inl good) at None is =
      surplus-none (Composite code must reps) vs c is
      (ap has_octet (value-is vs c j at ∙ (alike j ∙ part-past (parts_of rules code.octets) ws j good.1 (ap (slice_get (parts_of rules code.octets)) (let same : j ≡ c - 1 = omega arith in same) ∙ is))))
  composite-at code must reps vs ws c j alike (inl good) at (Some part) is =
      let value : value_at vs c ≡ get_or ws j [] = value-is vs c j at ∙ alike j in
      let there = part-good (parts_of rules code.octets) ws j part good.1 (ap (slice_get (parts_of rules code.octets)) (let same : j ≡ c - 1 = omega arith in same) ∙ is) in
      let here : IsGoodValue context part.must part.repr (value_at vs c) = subst (IsGoodValue context part.must part.repr) (sym value) there in
      composite-part code must reps vs c part is (λ used. here.filled) here.passes
  composite-at code must reps vs ws c j alike (inr none) at None is =
      surplus-none (Composite code must reps) vs c is (ap has_octet (value-is vs c j at) ∙ none-at vs j (filled-alike vs ws alike ∙ none.1))
  composite-at code must reps vs ws c j alike (inr none) at (Some part) is =
      let unused : is_used vs ≡ false = filled-alike vs ws alike ∙ none.1 in
      let empty : has_octet (value_at vs c) ≡ false = ap has_octet (value-is vs c j at) ∙ none-at vs j unused in
      composite-part code must reps vs c part is (λ used. absurd (false≢true (sym unused ∙ used))) (λ some. absurd (false≢true (sym empty ∙ some)))

  composite-used : (must : Bool) (ps : List PartDef) (vs ws : List (List ℕ)) → AreAlike vs ws → IsGoodComposite context must ps ws → must ≡ true → is_used vs ≡ true
  composite-used must ps vs ws alike (inl good) need = filled-alike vs ws alike ∙ good.0
  composite-used must ps vs ws alike (inr none) need = absurd (false≢true (sym none.0 ∙ need))

  -- an element that may occur at its item, or that isn't there
  alone-free : (part : PartDef) (reps : ℕ) (vs : List (List ℕ)) (e : ℕ) → reps ≡ 1 → IsGoodValue context part.must part.repr (get_or vs 0 []) → ((k : ℕ) → get_or vs (suc k) [] ≡ [])
      → element_errors rules (Some (Alone part reps)) (vs ∷ []) e ≡ []
  alone-free part reps vs e one good more =
      element-none rules (Some (Alone part reps)) (vs ∷ []) e
      (alone-whole part reps vs one (subst (IsGoodValue context part.must part.repr) (sym (value-is vs 1 0 refl)) good))
      (λ c low. alone-part part reps vs c (c - 1) (omega arith) more)

  composite-free : (code : Code) (must : Bool) (reps : ℕ) (vs ws : List (List ℕ)) (e : ℕ) → reps ≡ 1 → AreAlike vs ws → IsGoodComposite context must (parts_of rules code.octets) ws
      → element_errors rules (Some (Composite code must reps)) (vs ∷ []) e ≡ []
  composite-free code must reps vs ws e one alike good =
      element-none rules (Some (Composite code must reps)) (vs ∷ []) e
      (composite-whole code must reps vs one (composite-used must (parts_of rules code.octets) vs ws alike good))
      (λ c low. composite-at code must reps vs ws c (c - 1) alike good (omega arith) (slice_get (parts_of rules code.octets) (c - 1)) refl)

  element-free : (item : ItemDef) (vs ws : List (List ℕ)) (e : ℕ) → reps_of item ≡ 1 → AreAlike vs ws → IsGoodElement context item ws → element_errors rules (Some item) (vs ∷ []) e ≡ []
  unfolding parts_of
  element-free (Alone part reps) vs [] e one alike good = absurd good
  element-free (Alone part reps) vs (w ∷ []) e one alike good =
      alone-free part reps vs e one (subst (IsGoodValue context part.must part.repr) (sym (alike 0)) good) (λ k. alike (suc k) ∙ get-nil k [])
  element-free (Alone part reps) vs (w ∷ x ∷ more) e one alike good = absurd good
  element-free (Composite code must reps) vs ws e one alike good = composite-free code must reps vs ws e one alike good

  element-absent : (item : ItemDef) (vs : List (List ℕ)) (e : ℕ) → reps_of item ≡ 1 → AreAlike vs [] → is_must item ≡ false → element_errors rules (Some item) (vs ∷ []) e ≡ []
  element-absent (Alone part reps) vs e one alike free =
      alone-free part reps vs e one (empty-good part.must part.repr (get_or vs 0 []) free (alike 0)) (λ k. alike (suc k) ∙ get-nil (suc k) [])
  element-absent (Composite code must reps) vs e one alike free = composite-free code must reps vs [] e one alike (inr (free, refl))

  past-free : (vs : List (List ℕ)) (e : ℕ) → AreAlike vs [] → element_errors rules None (vs ∷ []) e ≡ []
  past-free vs e alike = element-none rules None (vs ∷ []) e (past-whole vs (filled-alike vs [] alike)) (λ c low. past-parts vs c)

  -- the element of a number
  numbered-free : (is : List ItemDef) (es : List Element) (i e : ℕ) (vs : List (List ℕ)) → list_all (λ item. reps_of item == 1) is ≡ true → AreGoodElements context is es
      → AreAlike vs (get_or es i []) → element_errors rules (slice_get is i) (vs ∷ []) e ≡ []
  numbered-free [] [] i e vs single good alike = past-free vs e (λ j. alike j ∙ ap (λ (w : Element). get_or w j []) (get-nil i []))
  numbered-free [] (x ∷ es) i e vs single good alike = absurd good
  numbered-free (item ∷ is) [] zero e vs single good alike =
      element-absent item vs e (eqb-true (reps_of item) 1 (and_parts (eqb (reps_of item) 1) (list_all (λ x. reps_of x == 1) is) single).0) alike good.0
  numbered-free (item ∷ is) [] (suc i) e vs single good alike =
      numbered-free is [] i e vs (and_parts (eqb (reps_of item) 1) (list_all (λ x. reps_of x == 1) is) single).1 good.1 (λ j. alike j ∙ ap (λ (w : Element). get_or w j []) (sym (get-nil i [])))
  numbered-free (item ∷ is) (x ∷ es) zero e vs single good alike =
      element-free item vs x e (eqb-true (reps_of item) 1 (and_parts (eqb (reps_of item) 1) (list_all (λ y. reps_of y == 1) is) single).0) alike good.0
  numbered-free (item ∷ is) (x ∷ es) (suc i) e vs single good alike =
      numbered-free is es i e vs (and_parts (eqb (reps_of item) 1) (list_all (λ y. reps_of y == 1) is) single).1 good.1 alike

-- a segment is lawful: its tag is that of a service segment, no item of which may be repeated, and its elements may occur
-- at these items
pub record IsLawful (context : Context) (s : Segment) : Type 0 where
  pub tag : is_tag_of s.tag ≡ true
  pub items : List ItemDef
  pub known : service_items_of s.tag ≡ Some items
  pub single : list_all (λ item. reps_of item == 1) items ≡ true
  pub good : AreGoodElements context items s.elements

-- it has no local error, by any directory
module _ (dir : Parts) (context : Context) (s : Segment) (law : IsLawful context s) where
  abbrev components : List Component
  components = components_read s

  repetitions-are : (i : ℕ) → repetitions_of components (suc i) ≡ first_list (get_or (lists_of s) (suc i) []) ∷ []
  repetitions-are i =
      single-repetition components (suc i) (read-single s)
      ∙ ap (λ (vs : List (List ℕ)). vs ∷ []) (ap (λ (cs : List Component). values_in cs (suc i) 1) (read-numbered s) ∙ values-numbered (lists_of s) (suc i))

  at-number : (k : ℕ) → 1 ≤ k → element_errors (rules_for context law.items) (slice_get law.items (k - 1)) (repetitions_of components k) k ≡ []
  at-number k low =
      let i : ℕ = k - 1 in
      ap (λ (n : ℕ). element_errors (rules_for context law.items) (slice_get law.items i) (repetitions_of components n) k) (let same : k ≡ suc (k - 1) = omega arith in same)
      ∙ (ap (λ (vss : List (List (List ℕ))). element_errors (rules_for context law.items) (slice_get law.items i) vss k) (repetitions-are i)
      ∙ numbered-free context law.items law.items s.elements i k (first_list (get_or (lists_of s) (suc i) [])) law.single law.good (first-kept s i))

  elements-free : elements_errors (rules_for context law.items) components ≡ []
  unfolding elements_errors
  elements-free =
      range-none (λ element. element_errors (rules_for context law.items) (slice_get law.items (element - 1)) (repetitions_of components element) element) 1
      (max (length law.items) (last_written components)) (omega arith) at-number

  tagged : tag_of components ≡ Some s.tag
  tagged = ap tag_of (read-numbered s) ∙ numbered-tag s.tag (map (λ e. once (read e)) (trimmed is_empty_element s.elements)) law.tag

  pub lawful-free : local_errors_of dir context components ≡ []
  unfolding rules_of
  lawful-free = sym (errors-known dir context components s.tag (rules_for context law.items) tagged (ap (service_rules dir context s.tag) law.known)) ∙ elements-free
