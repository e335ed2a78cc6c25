-- What a search in the text shows of the cuts of a segment.
use Rattle.std.proofs.Common.{◌≡◌, ◌≢◌, ℕ, ◌+◌, ◌-◌, ◌<◌, ◌≤◌, Bool, true, false, not, ◌||◌, eqb, List, [], ◌∷◌, length, get_or, Option, Some, None, refl, sym, ap, ◌∙◌, subst, ⊎_elim, arith}
use Rattle.std.specs.List.{between}
use Rattle.std.specs.Option.{ForSome}
use Rattle.std.proofs.lemmas.Bool.{and_from, and_left, and_parts, both_ways, eq-eqb, eqb-true, ne_eqb, or_cases, or_left, or_right}
use Rattle.std.proofs.lemmas.List.Edits.{length-between, get_or-between}
use Rattle.memchr.specs.Find.{NoneBefore, Nowhere}
use Rattle.seg_lexer.specs.Fields.{component_in, is_cut, is_repeat, is_repeating, is_separator}
use Rattle.seg_lexer.specs.Place.{AreApart, IsPlace, fields_from, place_by, rest_of}
use Rattle.seg_lexer.specs.Released.{is_release, is_released}
use Rattle.seg_lexer.specs.Scan.{IsFree, is_sought, sought_for}
use Rattle.seg_lexer.specs.declared.components.ComponentPlace.{ComponentPlace}
use Rattle.seg_lexer.specs.declared.scan.Sought.{Sought}
use Rattle.seg_lexer.specs.declared.service.Separators.{Separators}
use Rattle.seg_lexer.proofs.FieldsLemmas.{fields_from-component, fields_from-element, fields_from-last, fields_from-repetition}
use Rattle.memchr.proofs.lemmas.FindLemmas.{Nowhere-more}
use Rattle.seg_lexer.proofs.ReleasedLemmas.{is_released-between, is_released-from, is_released-more}

-- start..end of the text is a segment, in which a component may begin at place a
pub record Stands (release : Option ℕ) (text : List ℕ) (start end a : ℕ) : Type 0 where
  pub ordered : start ≤ end
  pub within : end ≤ length text
  pub inside : a ≤ end - start
  pub free : is_released release (between start end text) 0 a ≡ false

-- an octet ends a component of an element: it separates elements, repetitions or components
abbrev pub is_ending : Separators → ℕ → ℕ → Bool
is_ending sp element x = eqb x sp.element || eqb x sp.component || is_repeating sp element x

or_none : (b : Bool) → b ≡ (b || false)
or_none true = refl
or_none false = refl

-- what is looked for where this octet, if it is there, separates repetitions
pub sought-ending : (sp : Separators) (element : ℕ) (repetition : Option ℕ) → ((x : ℕ) → is_separator repetition x ≡ is_repeating sp element x)
    → (x : ℕ) → is_sought (sought_for sp.element sp.component repetition) x ≡ is_ending sp element x
sought-ending sp element None same x = or_none (eqb x sp.element || eqb x sp.component) ∙ ap (λ (b : Bool). eqb x sp.element || eqb x sp.component || b) (same x)
sought-ending sp element (Some p) same x = ap (λ (b : Bool). eqb x sp.element || eqb x sp.component || b) (same x)

-- a separator that isn't this octet
other-separator : (o : Option ℕ) (x r : ℕ) → ForSome o (λ p. p ≢ r) → is_separator o x ≡ true → x ≢ r
other-separator None x r other is same = both_ways false refl is
other-separator (Some p) x r other is same = other p refl (sym (eqb-true x p is) ∙ same)

module _ (sp : Separators) (text : List ℕ) (start end a : ℕ) (s : Stands sp.release text start end a) (element : ℕ) (sought : Sought) (ending : (x : ℕ) → is_sought sought x ≡ is_ending sp element x) where
  read : (k : ℕ) → k < end - start → get_or (between start end text) k 0 ≡ get_or text (start + k) 0
  read k below = get_or-between text start end k 0 (omega arith)

  released : (k : ℕ) → a ≤ k → k < end - start → is_released sp.release text (start + a) (start + k) ≡ is_released sp.release (between start end text) 0 k
  released k low below =
      let ordered = s.ordered in let within = s.within in let inside = s.inside in
      let len : length (between start end text) ≡ end - start = length-between text start end s.within in
      let e : a + (k - a) ≡ k = omega arith in
      sym (is_released-between sp.release start end text a k low (omega arith) within)
      ∙ (sym (ap (is_released sp.release (between start end text) a) e)
      ∙ (sym (is_released-from sp.release (between start end text) 0 a (k - a) (omega arith) (omega arith) s.free)
      ∙ ap (is_released sp.release (between start end text) 0) e))

  -- an unreleased octet that ends a component is what the search looks for
  end-free : (k : ℕ) → a ≤ k → k < end - start → is_ending sp element (get_or (between start end text) k 0) ≡ true → not (is_released sp.release (between start end text) 0 k) ≡ true
      → IsFree sp.release sought text (start + a) (start + k)
  end-free k low below is unreleased =
      and_from _ _ (ending (get_or text (start + k) 0) ∙ (ap (is_ending sp element) (sym (read k below)) ∙ is)) (ap not (released k low below) ∙ unreleased)

  module _ (j : ℕ) (low : a ≤ j) (below : j ≤ end - start) (none : Nowhere (IsFree sp.release sought text (start + a)) (start + a) (start + j)) where
    no-element : Nowhere (λ i. is_cut sp.release (between start end text) sp.element i ≡ true) a j
    no-element k from to cut =
        let parts = and_parts (eqb (get_or (between start end text) k 0) sp.element) _ cut in
        none (start + k) (omega arith) (omega arith) (end-free k from (omega arith) (or_left _ _ (or_left _ _ parts.0)) parts.1)

    no-component : Nowhere (λ i. is_cut sp.release (between start end text) sp.component i ≡ true) a j
    no-component k from to cut =
        let parts = and_parts (eqb (get_or (between start end text) k 0) sp.component) _ cut in
        none (start + k) (omega arith) (omega arith) (end-free k from (omega arith) (or_left _ _ (or_right _ _ parts.0)) parts.1)

    no-repeat : Nowhere (λ i. is_repeat sp (between start end text) element i ≡ true) a j
    no-repeat k from to cut =
        let parts = and_parts (is_repeating sp element (get_or (between start end text) k 0)) _ cut in
        none (start + k) (omega arith) (omega arith) (end-free k from (omega arith) (or_right _ _ parts.0) parts.1)

  module _ (j : ℕ) (low : a ≤ j) (below : j < end - start) (found : IsFree sp.release sought text (start + a) (start + j)) where
    unreleased : not (is_released sp.release (between start end text) 0 j) ≡ true
    unreleased = sym (ap not (released j low below)) ∙ (and_parts _ _ found).1

    -- it is one of the three
    one-of : is_ending sp element (get_or text (start + j) 0) ≡ true
    one-of = sym (ending (get_or text (start + j) 0)) ∙ (and_parts _ _ found).0

    at_element : get_or text (start + j) 0 ≡ sp.element → is_cut sp.release (between start end text) sp.element j ≡ true
    at_element same = and_from _ _ (eq-eqb _ _ (read j below ∙ same)) unreleased

    at_repeat : is_repeating sp element (get_or text (start + j) 0) ≡ true → is_repeat sp (between start end text) element j ≡ true
    at_repeat is = and_from _ _ (ap (is_repeating sp element) (read j below) ∙ is) unreleased

    at_component : get_or text (start + j) 0 ≢ sp.element → is_repeating sp element (get_or text (start + j) 0) ≡ false → is_cut sp.release (between start end text) sp.component j ≡ true
    at_component other single = ⊎_elim
        (λ (either : (eqb (get_or text (start + j) 0) sp.element || eqb (get_or text (start + j) 0) sp.component) ≡ true). ⊎_elim
        (λ same. absurd (other (eqb-true _ _ same)))
        (λ same. and_from _ _ (eq-eqb _ _ (read j below ∙ eqb-true _ _ same)) unreleased)
        (or_cases (eqb (get_or text (start + j) 0) sp.element) (eqb (get_or text (start + j) 0) sp.component) either))
        (λ is. absurd (both_ways _ single is))
        (or_cases (eqb (get_or text (start + j) 0) sp.element || eqb (get_or text (start + j) 0) sp.component) (is_repeating sp element (get_or text (start + j) 0)) one-of)

    not-element : get_or text (start + j) 0 ≢ sp.element → is_cut sp.release (between start end text) sp.element j ≡ true → ⊥
    not-element other cut = other (sym (read j below) ∙ eqb-true _ _ (and_parts _ _ cut).0)

    not-repeat : is_repeating sp element (get_or text (start + j) 0) ≡ false → is_repeat sp (between start end text) element j ≡ true → ⊥
    not-repeat single cut = both_ways _ single (sym (ap (is_repeating sp element) (read j below)) ∙ (and_parts _ _ cut).0)

    -- and no release character, so what follows isn't released
    free-after : AreApart sp → is_released sp.release (between start end text) 0 (j + 1) ≡ false
    free-after apart =
        let within = s.within in
        let len : length (between start end text) ≡ end - start = length-between text start end s.within in
        let plain : (o : Option ℕ) → sp.release ≡ o → is_release o (get_or (between start end text) j 0) ≡ false = elim [
          | None ↦ λ _. refl
          | Some r ↦ λ is. ne_eqb _ r (λ same.
              let here : get_or text (start + j) 0 ≡ r = sym (read j below) ∙ same in
              ⊎_elim
              (λ (either : (eqb (get_or text (start + j) 0) sp.element || eqb (get_or text (start + j) 0) sp.component) ≡ true). ⊎_elim
              (λ e. (apart r is).0 (sym (eqb-true _ _ e) ∙ here))
              (λ e. (apart r is).1 (sym (eqb-true _ _ e) ∙ here))
              (or_cases (eqb (get_or text (start + j) 0) sp.element) (eqb (get_or text (start + j) 0) sp.component) either))
              (λ repeats. other-separator sp.repetition _ r (apart r is).2 (and_parts (not (eqb element 0)) (is_separator sp.repetition (get_or text (start + j) 0)) repeats).1 here)
              (or_cases (eqb (get_or text (start + j) 0) sp.element || eqb (get_or text (start + j) 0) sp.component) (is_repeating sp element (get_or text (start + j) 0)) one-of))
        ] in
        is_released-more sp.release (between start end text) 0 j (omega arith) (omega arith) ∙ and_left _ _ (plain sp.release refl)

abbrev place : ℕ → ℕ → ℕ → ℕ → ComponentPlace
place at element repetition component = record { at = at; element = element; repetition = repetition; component = component }

-- what a search shows, in the words of the segment
module _ (sp : Separators) (text : List ℕ) (start end a : ℕ) (s : Stands sp.release text start end a) (element : ℕ) (sought : Sought) (ending : (x : ℕ) → is_sought sought x ≡ is_ending sp element x) (r c : ℕ) where
  pub rest-last : Nowhere (IsFree sp.release sought text (start + a)) (start + a) end
      → fields_from sp (between start end text) (place_by element r c a) ≡ component_in sp.release (between start end text) element r (c, record { from = a; to = end - start }) ∷ []
  rest-last none =
      let len : length (between start end text) ≡ end - start = length-between text start end s.within in
      let inside = s.inside in let ordered = s.ordered in
      let all : Nowhere (IsFree sp.release sought text (start + a)) (start + a) (start + (end - start)) = λ k low high. none k low (omega arith) in
      fields_from-last sp (between start end text) element r c a
      (λ k low high. no-element sp text start end a s element sought ending (end - start) inside (omega arith) all k low (omega arith))
      (λ k low high. no-repeat sp text start end a s element sought ending (end - start) inside (omega arith) all k low (omega arith))
      (λ k low high. no-component sp text start end a s element sought ending (end - start) inside (omega arith) all k low (omega arith))
      ∙ ap (λ (n : ℕ). component_in sp.release (between start end text) element r (c, record { from = a; to = n }) ∷ []) len

  module _ (found : ℕ) (first : NoneBefore (IsFree sp.release sought text (start + a)) (start + a) end found) (free : IsFree sp.release sought text (start + a) found) where
    -- the place in the segment of what was found
    pub stop-at : (a ≤ found - start) × (found - start < end - start) × (start + (found - start) ≡ found)
    stop-at = let low = first.low in let high = first.high in (omega arith, omega arith, omega arith)

    before : Nowhere (IsFree sp.release sought text (start + a)) (start + a) (start + (found - start))
    before k low high = let back = stop-at.2 in first.before k low (omega arith)

    here : IsFree sp.release sought text (start + a) (start + (found - start))
    here = subst (IsFree sp.release sought text (start + a)) (sym stop-at.2) free

    octet-here : get_or text (start + (found - start)) 0 ≡ get_or text found 0
    octet-here = ap (λ (k : ℕ). get_or text k 0) stop-at.2

    other-here : get_or text found 0 ≢ sp.element → get_or text (start + (found - start)) 0 ≢ sp.element
    other-here other same = other (sym octet-here ∙ same)

    -- the component that ends there, and those that come next
    abbrev IsRest : ComponentPlace → Type 0
    IsRest p =
        fields_from sp (between start end text) (place_by element r c a)
        ≡ component_in sp.release (between start end text) element r (c, record { from = a; to = found - start }) ∷ rest_of sp (between start end text) (Some p)

    none-element : Nowhere (λ i. is_cut sp.release (between start end text) sp.element i ≡ true) a (found - start)
    none-element = let below = stop-at.1 in no-element sp text start end a s element sought ending (found - start) stop-at.0 (omega arith) before

    none-repeat : Nowhere (λ i. is_repeat sp (between start end text) element i ≡ true) a (found - start)
    none-repeat = let below = stop-at.1 in no-repeat sp text start end a s element sought ending (found - start) stop-at.0 (omega arith) before

    none-component : Nowhere (λ i. is_cut sp.release (between start end text) sp.component i ≡ true) a (found - start)
    none-component = let below = stop-at.1 in no-component sp text start end a s element sought ending (found - start) stop-at.0 (omega arith) before

    no-element-here : get_or text found 0 ≢ sp.element → Nowhere (λ i. is_cut sp.release (between start end text) sp.element i ≡ true) a (found - start + 1)
    no-element-here other =
        Nowhere-more none-element (not-element sp text start end a s element sought ending (found - start) stop-at.0 stop-at.1 here (other-here other))

    inside-here : found - start < length (between start end text)
    inside-here =
        let len : length (between start end text) ≡ end - start = length-between text start end s.within in
        let below = stop-at.1 in
        omega arith

    pub rest-element : (p : ComponentPlace) → p ≡ place (found - start + 1) (element + 1) 1 1 → get_or text found 0 ≡ sp.element → IsRest p
    rest-element p is same =
        fields_from-element sp (between start end text) element r c a (found - start) stop-at.0 inside-here none-element none-repeat none-component
        (at_element sp text start end a s element sought ending (found - start) stop-at.0 stop-at.1 here (octet-here ∙ same))
        ∙ ap (λ (q : ComponentPlace). component_in sp.release (between start end text) element r (c, record { from = a; to = found - start }) ∷ rest_of sp (between start end text) (Some q)) (sym is)

    pub rest-repetition : (p : ComponentPlace) → p ≡ place (found - start + 1) element (r + 1) 1 → get_or text found 0 ≢ sp.element → is_repeating sp element (get_or text found 0) ≡ true → IsRest p
    rest-repetition p is other repeats =
        fields_from-repetition sp (between start end text) element r c a (found - start) stop-at.0 inside-here (no-element-here other) none-repeat none-component
        (at_repeat sp text start end a s element sought ending (found - start) stop-at.0 stop-at.1 here (ap (is_repeating sp element) octet-here ∙ repeats))
        ∙ ap (λ (q : ComponentPlace). component_in sp.release (between start end text) element r (c, record { from = a; to = found - start }) ∷ rest_of sp (between start end text) (Some q)) (sym is)

    pub rest-component : (p : ComponentPlace) → p ≡ place (found - start + 1) element r (c + 1) → get_or text found 0 ≢ sp.element → is_repeating sp element (get_or text found 0) ≡ false → IsRest p
    rest-component p is other single =
        let single_here : is_repeating sp element (get_or text (start + (found - start)) 0) ≡ false = ap (is_repeating sp element) octet-here ∙ single in
        fields_from-component sp (between start end text) element r c a (found - start) stop-at.0 inside-here (no-element-here other)
        (Nowhere-more none-repeat (not-repeat sp text start end a s element sought ending (found - start) stop-at.0 stop-at.1 here single_here))
        none-component
        (at_component sp text start end a s element sought ending (found - start) stop-at.0 stop-at.1 here (other-here other) single_here)
        ∙ ap (λ (q : ComponentPlace). component_in sp.release (between start end text) element r (c, record { from = a; to = found - start }) ∷ rest_of sp (between start end text) (Some q)) (sym is)

    -- where the next component begins
    pub place-after : AreApart sp → (e m n : ℕ) (p : ComponentPlace) → p ≡ place (found - start + 1) e m n → e ≤ found - start + 1 → m ≤ found - start + 1 + 1 → n ≤ found - start + 1 + 1
        → (next : ComponentPlace) → Some p ≡ Some next → IsPlace sp.release (between start end text) next
    place-after apart e m n p is_place few_elements few_repetitions few_components next is =
        let inside = inside-here in
        let same : p ≡ next = cc in
        subst (IsPlace sp.release (between start end text)) (sym is_place ∙ same) (record {
          within = omega arith;
          element = few_elements;
          repetition = few_repetitions;
          component = few_components;
          free = free-after sp text start end a s element sought ending (found - start) stop-at.0 stop-at.1 here apart;
        })
