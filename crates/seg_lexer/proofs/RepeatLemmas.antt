-- Where nothing separates repetitions, each element is one.
use Rattle.std.proofs.Common.{◌≡◌, ℕ, zero, suc, ◌+◌, ◌-◌, ◌<◌, ◌≤◌, Bool, true, false, not, ◌&&◌, cond, eqb, List, [], ◌∷◌, ◌++◌, length, get_or, Option, None, refl, sym, ap, ◌∙◌, inl, inr, arith}
use Rattle.std.specs.Prelude.{map}
use Rattle.std.specs.List.{enumerate_from, filter, flat_map, list_any, range_with_len}
use Rattle.std.proofs.lemmas.Bool.{and_from, and_parts, both_ways, cases_Bool, cond_both}
use Rattle.std.proofs.lemmas.List.{append-nil}
use Rattle.std.proofs.lemmas.List.Folds.{list_any_at}
use Rattle.memchr.specs.Find.{Nowhere}
use Rattle.seg_lexer.specs.Fields.{Component, PlacedComponent, are_single, component_in, components_in, components_of, cut, element_in, fields_of, is_cut, is_repeat, is_separator, repetition_in, stretches, unplaced}
use Rattle.seg_lexer.specs.Released.{is_released}
use Rattle.seg_lexer.specs.Stretch.{Stretch, places_that}
use Rattle.seg_lexer.specs.Tag.{tag_field, tag_in, tag_of}
use Rattle.seg_lexer.specs.declared.service.Separators.{Separators}
use Rattle.seg_lexer.proofs.FieldsLemmas.{cut-none}
use Rattle.seg_lexer.proofs.OrderLemmas.{IsInOrder-elements}
use Rattle.seg_lexer.proofs.TagLemmas.{tag_field-past}

neither : (b c : Bool) → (b && false && c) ≡ false
neither true c = refl
neither false c = refl

-- where there is no separator, no octet is one
pub none-separates : (xs : List ℕ) → list_any (is_separator None) xs ≡ false
none-separates [] = refl
none-separates (x ∷ xs) = none-separates xs

module _ (sp : Separators) (xs : List ℕ) (element : ℕ) where
  not-there : (i : ℕ) → is_separator sp.repetition (get_or xs i 0) ≡ false → is_repeat sp xs element i ≡ false
  not-there i other =
      ap (λ (b : Bool). not (eqb element 0) && b && not (is_released sp.release xs 0 i)) other
      ∙ neither (not (eqb element 0)) (not (is_released sp.release xs 0 i))

  -- no octet of the segment separates repetitions
  pub no-repeat : list_any (is_separator sp.repetition) xs ≡ false → (i : ℕ) → i < length xs → is_repeat sp xs element i ≡ false
  no-repeat single i within = elim (cases_Bool (is_separator sp.repetition (get_or xs i 0))) [
    | inl is ↦ absurd (both_ways _ single (list_any_at (is_separator sp.repetition) xs i 0 within is))
    | inr other ↦ not-there i other
  ]

  -- there is no separator of repetitions
  never-repeats : sp.repetition ≡ None → (i : ℕ) → is_repeat sp xs element i ≡ false
  never-repeats single i = not-there i (ap (λ (o : Option ℕ). is_separator o (get_or xs i 0)) single)

  -- the element is one repetition
  whole : (p : Stretch) → Nowhere (λ i. is_repeat sp xs element i ≡ true) p.from p.to → element_in sp xs (element, p) ≡ components_in sp xs element 1 (1, p)
  whole p none =
      ap (λ ss. flat_map (repetition_in sp xs element) (enumerate_from 1 ss)) (cut-none (is_repeat sp xs element) p.from p.to none)
      ∙ append-nil (components_in sp xs element 1 (1, p))

  pub one-repetition : sp.repetition ≡ None → (p : Stretch) → element_in sp xs (element, p) ≡ components_in sp xs element 1 (1, p)
  one-repetition single p = whole p (λ i low high is. both_ways _ (never-repeats single i) is)

single-both : (fs gs : List PlacedComponent) → are_single (map unplaced fs) ≡ true → are_single (map unplaced gs) ≡ true → are_single (map unplaced (fs ++ gs)) ≡ true
single-both [] gs one two = two
single-both (f ∷ fs) gs one two = let parts = and_parts (eqb f.repetition 1) (are_single (map unplaced fs)) one in and_from _ _ parts.0 (single-both fs gs parts.1 two)

module _ (sp : Separators) (xs : List ℕ) (single : list_any (is_separator sp.repetition) xs ≡ false) where
  single-parts : (element : ℕ) (ps : List (ℕ × Stretch)) → are_single (map unplaced (map (component_in sp.release xs element 1) ps)) ≡ true
  single-parts element [] = refl
  single-parts element (p ∷ ps) = single-parts element ps

  single-element : (element : ℕ) (p : Stretch) → p.to ≤ length xs → are_single (map unplaced (element_in sp xs (element, p))) ≡ true
  single-element element p within =
      ap (λ (fs : List PlacedComponent). are_single (map unplaced fs)) (whole sp xs element p (λ i low high is. both_ways _ (no-repeat sp xs element single i (omega arith)) is))
      ∙ single-parts element (enumerate_from 1 (cut sp.release xs sp.component p.from p.to))

  single-elements : (p : ℕ → Bool) (m s a n b : ℕ) → a + n ≡ b → b ≤ length xs → are_single (map unplaced (flat_map (element_in sp xs) (enumerate_from m (stretches s (filter p (range_with_len a n)) b)))) ≡ true
  unfolding stretches
  single-elements p m s a zero b all within = single-both (element_in sp xs (m, record { from = s; to = b })) [] (single-element m (record { from = s; to = b }) within) refl
  single-elements p m s a (suc n) b all within =
      let later : List ℕ = filter p (range_with_len (a + 1) n) in
      cond_both (p a) (a ∷ later) later (λ (cuts : List ℕ). are_single (map unplaced (flat_map (element_in sp xs) (enumerate_from m (stretches s cuts b)))) ≡ true)
      (λ _. single-both (element_in sp xs (m, record { from = s; to = a })) (flat_map (element_in sp xs) (enumerate_from (m + 1) (stretches (a + 1) later b)))
      (single-element m (record { from = s; to = a }) (omega arith)) (single-elements p (m + 1) (a + 1) (a + 1) n b (omega arith) within))
      (λ _. single-elements p m s (a + 1) n b (omega arith) within)

  -- where no octet of a segment separates repetitions, none of its elements is repeated
  pub components-single : are_single (components_of sp xs) ≡ true
  unfolding fields_of places_that
  components-single = single-elements (is_cut sp.release xs sp.element) 0 0 0 (length xs - 0) (length xs) (omega arith) (omega arith)

-- the tag field, by a test of the first component
abbrev field_by : Bool → PlacedComponent → List Component → List (List ℕ)
field_by b f es = cond b (f.octets ∷ tag_field es) (tag_field es)

field-first : (b : Bool) (f : PlacedComponent) (es : List Component) → map (λ e. e.octets) (cond b (unplaced f ∷ filter (λ e. eqb e.element 0) es) (filter (λ e. eqb e.element 0) es)) ≡ field_by b f es
field-first true f es = refl
field-first false f es = refl

-- what has no tag field adds nothing to one
field-before : (fs gs : List PlacedComponent) → tag_field (map unplaced gs) ≡ [] → tag_field (map unplaced (fs ++ gs)) ≡ tag_field (map unplaced fs)
field-before [] gs none = none
field-before (f ∷ fs) gs none =
    field-first (eqb f.element 0) f (map unplaced (fs ++ gs))
    ∙ (ap (λ (vs : List (List ℕ)). cond (eqb f.element 0) (f.octets ∷ vs) vs) (field-before fs gs none) ∙ sym (field-first (eqb f.element 0) f (map unplaced fs)))

module _ (sp : Separators) (other : Option ℕ) (xs : List ℕ) where
  abbrev changed : Separators
  changed = record sp { repetition = other }

  same-field : (ss : List Stretch) → tag_field (map unplaced (flat_map (element_in changed xs) (enumerate_from 0 ss))) ≡ tag_field (map unplaced (flat_map (element_in sp xs) (enumerate_from 0 ss)))
  same-field [] = refl
  same-field (s ∷ ss) =
      field-before (element_in changed xs (0, s)) (flat_map (element_in changed xs) (enumerate_from 1 ss)) (tag_field-past 1 _ (omega arith) (IsInOrder-elements changed xs 1 ss))
      ∙ sym (field-before (element_in sp xs (0, s)) (flat_map (element_in sp xs) (enumerate_from 1 ss)) (tag_field-past 1 _ (omega arith) (IsInOrder-elements sp xs 1 ss)))

  -- the tag of a segment doesn't depend on what separates repetitions
  pub same-tag : tag_of (components_of changed xs) ≡ tag_of (components_of sp xs)
  unfolding tag_of fields_of
  same-tag = ap tag_in (same-field (cut sp.release xs sp.element 0 (length xs)))
