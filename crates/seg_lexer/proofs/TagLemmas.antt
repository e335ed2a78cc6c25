-- The tag field of a segment, from its components in order.
use Rattle.std.proofs.Common.{◌≡◌, ℕ, ◌<◌, Bool, true, false, not, ◌&&◌, cond, eqb, List, [], ◌∷◌, length, Option, Some, None, refl, sym, ap, ◌∙◌, inl, inr, arith}
use Rattle.std.specs.Prelude.{map}
use Rattle.std.specs.List.{filter, list_all}
use Rattle.std.proofs.lemmas.Bool.{cases_Bool, ne_eqb, eq-eqb}
use Rattle.std.proofs.lemmas.Bool.Decides.{nat_tests}
use Rattle.edi_tables.specs.Tag.{is_tag_of}
use Rattle.seg_lexer.specs.Fields.{Component, IsInOrder, PlacedComponent, unplaced}
use Rattle.seg_lexer.specs.Tag.{past_tag_field, tag_field, tag_in, tag_of}

-- the tag field, by a test of the first component
abbrev field_by : Bool → Component → List Component → List (List ℕ)
field_by b e es = map (λ e. e.octets) (cond b (e ∷ filter (λ e. eqb e.element 0) es) (filter (λ e. eqb e.element 0) es))

-- what comes after the tag field, by a test of the first component
abbrev past_by : Bool → PlacedComponent → List PlacedComponent → List PlacedComponent
past_by b f fs = cond (not b) (f ∷ past_tag_field fs) (past_tag_field fs)

-- no component of an element belongs to the tag field
pub tag_field-past : (n : ℕ) (es : List Component) → 0 < n → IsInOrder n es → tag_field es ≡ []
tag_field-past n [] low order = refl
tag_field-past n (e ∷ es) low order =
    let above = order.0 in
    let other : eqb e.element 0 ≡ false = ne_eqb e.element 0 (λ same. omega arith) in
    ap (λ b. field_by b e es) other ∙ tag_field-past e.element es (omega arith) order.1

-- a component of the tag field is the first of it
pub tag_field-first : (e : Component) (es : List Component) → e.element ≡ 0 → tag_field (e ∷ es) ≡ e.octets ∷ tag_field es
tag_field-first e es is = ap (λ b. field_by b e es) (eq-eqb e.element 0 is)

pub past-first : (f : PlacedComponent) (fs : List PlacedComponent) → f.element ≡ 0 → past_tag_field (f ∷ fs) ≡ past_tag_field fs
past-first f fs is = ap (λ b. past_by b f fs) (eq-eqb f.element 0 is)

-- where nothing belongs to the tag field, all is past it
pub past-all : (fs : List PlacedComponent) → tag_field (map unplaced fs) ≡ [] → past_tag_field fs ≡ fs
past-all [] none = refl
past-all (f ∷ fs) none = elim (cases_Bool (eqb f.element 0)) [
  | inl same ↦ let first : f.octets ∷ tag_field (map unplaced fs) ≡ [] = sym (ap (λ b. field_by b (unplaced f) (map unplaced fs)) same) ∙ none in cc
  | inr other ↦
      let later : tag_field (map unplaced fs) ≡ [] = sym (ap (λ b. field_by b (unplaced f) (map unplaced fs)) other) ∙ none in
      ap (λ b. past_by b f fs) other ∙ ap (λ gs. f ∷ gs) (past-all fs later)
]

-- and only elements are left
pub order-past : (es : List Component) → tag_field es ≡ [] → IsInOrder 0 es → IsInOrder 1 es
order-past [] none order = tt
order-past (e ∷ es) none order = elim (cases_Bool (eqb e.element 0)) [
  | inl same ↦ let first : e.octets ∷ tag_field es ≡ [] = sym (ap (λ b. field_by b e es) same) ∙ none in cc
  | inr other ↦ let above : 0 < e.element = grind (arith, nat_tests) in (omega arith, order.1)
]

abbrev pub all_empty : List (List ℕ) → Bool
all_empty = list_all (λ octets. eqb (length octets) 0)

choose : (a b : Bool) (x : List ℕ) → cond (a && b) (Some x) None ≡ cond b (cond a (Some x) None) None
choose true b x = refl
choose false true x = refl
choose false false x = refl

-- the tag of a segment, by the first value of its tag field and the further ones
pub tag_of-first : (es : List Component) (first : List ℕ) (further : List (List ℕ)) (o : Option (List ℕ)) → tag_field es ≡ first ∷ further → o ≡ cond (is_tag_of first) (Some first) None
    → tag_of es ≡ cond (all_empty further) o None
unfolding tag_of
tag_of-first es first further o is tag =
    ap tag_in is ∙ (choose (is_tag_of first) (all_empty further) first ∙ ap (λ (o : Option (List ℕ)). cond (all_empty further) o None) (sym tag))

-- a segment without a tag field has no tag
pub tag_of-none : (es : List Component) → tag_field es ≡ [] → None ≡ tag_of es
unfolding tag_of
tag_of-none es is = sym (ap tag_in is)
