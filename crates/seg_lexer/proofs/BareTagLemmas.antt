-- The tag of a segment that begins with three octets of which none separates or releases.
use Rattle.std.proofs.Common.{◌≡◌, ◌≢◌, ℕ, zero, suc, ◌-◌, ◌≤◌, true, false, not, eqb, List, [], ◌∷◌, ◌++◌, length, get_or, take, drop, Some, None, cond, refl, sym, ap, ◌∙◌, arith}
use Rattle.std.specs.Prelude.{map}
use Rattle.std.specs.List.{list_any}
use Rattle.std.proofs.lemmas.Bool.{and_from, and_left, and_parts, both_ways, eq-eqb, eqb-true}
use Rattle.std.proofs.lemmas.List.{take-append-drop, take_all}
use Rattle.memchr.specs.Find.{Nowhere}
use Rattle.edi_tables.specs.Tag.{is_tag_of}
use Rattle.seg_lexer.specs.Fields.{Component, PlacedComponent, components_of, fields_of, is_cut, is_repeat, unplaced}
use Rattle.seg_lexer.specs.Place.{fields_from, place_by}
use Rattle.seg_lexer.specs.Released.{is_release, is_released, value_of}
use Rattle.seg_lexer.specs.Tag.{IsBare, tag_field, tag_of}
use Rattle.seg_lexer.specs.declared.service.Separators.{Separators}
use Rattle.seg_lexer.proofs.FieldsLemmas.{fields_from-element, fields_from-last, fields_of-from}
use Rattle.seg_lexer.proofs.ForwardLemmas.{value_of-all}
use Rattle.seg_lexer.proofs.OrderLemmas.{IsInOrder-from}
use Rattle.seg_lexer.proofs.ReleasedLemmas.{is_released-more}
use Rattle.seg_lexer.proofs.TagLemmas.{tag_field-first, tag_field-past, tag_of-first}

module _ (sp : Separators) (a b c : ℕ) (bare_a : IsBare sp a) (bare_b : IsBare sp b) (bare_c : IsBare sp c) where
  module _ (ys : List ℕ) where
    abbrev segment : List ℕ
    segment = a ∷ b ∷ c ∷ ys

    none-of : (x : ℕ) → a ≢ x → b ≢ x → c ≢ x → Nowhere (λ i. is_cut sp.release segment x i ≡ true) 0 3
    none-of x na nb nc zero low high cut = na (eqb-true a x (and_parts (eqb a x) _ cut).0)
    none-of x na nb nc (suc zero) low high cut = nb (eqb-true b x (and_parts (eqb b x) _ cut).0)
    none-of x na nb nc (suc (suc zero)) low high cut = nc (eqb-true c x (and_parts (eqb c x) _ cut).0)
    none-of x na nb nc (suc (suc (suc k))) low high cut = absurd (omega arith)

    no-element : Nowhere (λ i. is_cut sp.release segment sp.element i ≡ true) 0 3
    no-element = none-of sp.element bare_a.element bare_b.element bare_c.element

    no-component : Nowhere (λ i. is_cut sp.release segment sp.component i ≡ true) 0 3
    no-component = none-of sp.component bare_a.component bare_b.component bare_c.component

    no-repeat : Nowhere (λ i. is_repeat sp segment 0 i ≡ true) 0 3
    no-repeat k low high is = both_ways false refl is

    free : is_released sp.release segment 0 3 ≡ false
    free = is_released-more sp.release segment 0 2 (omega arith) (omega arith) ∙ and_left _ _ bare_c.release

    own-value : value_of sp.release (a ∷ b ∷ c ∷ []) ≡ a ∷ b ∷ c ∷ []
    own-value =
        let none : list_any (is_release sp.release) (a ∷ b ∷ c ∷ []) ≡ false = rw (bare_a.release, bare_b.release, bare_c.release) refl in
        value_of-all sp.release (a ∷ b ∷ c ∷ []) none

    -- the tag is the first component, and all others are of elements
    tag-by : (es : List Component) (e : Component) (later : List Component) → es ≡ e ∷ later → e.element ≡ 0 → e.octets ≡ a ∷ b ∷ c ∷ [] → tag_field later ≡ [] → is_tag_of (a ∷ b ∷ c ∷ []) ≡ true
        → tag_of es ≡ Some (a ∷ b ∷ c ∷ [])
    tag-by es e later is tagged octets none tag =
        let field : tag_field es ≡ (a ∷ b ∷ c ∷ []) ∷ [] = ap tag_field is ∙ tag_field-first e later tagged ∙ rw (octets, none) refl in
        let found : Some (a ∷ b ∷ c ∷ []) ≡ cond (is_tag_of (a ∷ b ∷ c ∷ [])) (Some (a ∷ b ∷ c ∷ [])) None = rw tag refl in
        tag_of-first es (a ∷ b ∷ c ∷ []) [] (Some (a ∷ b ∷ c ∷ [])) field found

  -- the segment is its tag
  pub bare-last : is_tag_of (a ∷ b ∷ c ∷ []) ≡ true → tag_of (components_of sp (a ∷ b ∷ c ∷ [])) ≡ Some (a ∷ b ∷ c ∷ [])
  bare-last tag =
      let xs : List ℕ = a ∷ b ∷ c ∷ [] in
      let fields : fields_of sp xs ≡ _ = sym (fields_of-from sp xs) ∙ fields_from-last sp xs 0 1 1 0 (no-element []) (no-repeat []) (no-component []) in
      tag-by [] (components_of sp xs) _ [] (ap (map unplaced) fields) refl (own-value []) refl tag

  -- a separator of elements comes after its tag
  pub bare-next : (more : List ℕ) → is_tag_of (a ∷ b ∷ c ∷ []) ≡ true → tag_of (components_of sp (a ∷ b ∷ c ∷ sp.element ∷ more)) ≡ Some (a ∷ b ∷ c ∷ [])
  bare-next more tag =
      let ys : List ℕ = sp.element ∷ more in
      let xs : List ℕ = a ∷ b ∷ c ∷ ys in
      let here : is_cut sp.release xs sp.element 3 ≡ true = and_from _ _ (eq-eqb sp.element sp.element refl) (ap not (free ys)) in
      let later : List PlacedComponent = fields_from sp xs (place_by 1 1 1 4) in
      let fields : fields_of sp xs ≡ _ = sym (fields_of-from sp xs) ∙ fields_from-element sp xs 0 1 1 0 3 (omega arith) (omega arith) (no-element ys) (no-repeat ys) (no-component ys) here in
      let past : tag_field (map unplaced later) ≡ [] = tag_field-past 1 (map unplaced later) (omega arith) (IsInOrder-from sp xs 1 1 1 4) in
      tag-by ys (components_of sp xs) _ (map unplaced later) (ap (map unplaced) fields) refl (own-value ys) past tag

-- what one look at the front of a segment shows
pub bare-tag : (sp : Separators) (part xs : List ℕ) (len : ℕ) → 3 ≤ length part → IsBare sp (get_or part 0 0) → IsBare sp (get_or part 1 0) → IsBare sp (get_or part 2 0)
    → is_tag_of (get_or part 0 0 ∷ get_or part 1 0 ∷ get_or part 2 0 ∷ []) ≡ true → ((x : ℕ) (later : List ℕ) → take (length part - 3) (drop 3 part) ≡ x ∷ later → x ≡ sp.element) → (take (length part - 3) (drop 3 part) ≡ [] → len ≡ 3)
    → length xs ≡ len → part ≡ take (length part) xs → tag_of (components_of sp xs) ≡ Some (get_or part 0 0 ∷ get_or part 1 0 ∷ get_or part 2 0 ∷ [])
bare-tag sp [] xs len some bare_a bare_b bare_c tag next last long is = absurd (omega arith)
bare-tag sp (a ∷ []) xs len some bare_a bare_b bare_c tag next last long is = absurd (omega arith)
bare-tag sp (a ∷ b ∷ []) xs len some bare_a bare_b bare_c tag next last long is = absurd (omega arith)
bare-tag sp (a ∷ b ∷ c ∷ []) xs len some bare_a bare_b bare_c tag next last long is =
    let three : len ≡ 3 = last refl in
    let all : take 3 xs ≡ xs = take_all 3 xs (omega arith) in
    ap (λ (ys : List ℕ). tag_of (components_of sp ys)) (sym (is ∙ all)) ∙ bare-last sp a b c bare_a bare_b bare_c tag
bare-tag sp (a ∷ b ∷ c ∷ x ∷ later) xs len some bare_a bare_b bare_c tag next last long is =
    let n : ℕ = length (a ∷ b ∷ c ∷ x ∷ later) in
    let rest : List ℕ = drop n xs in
    let after : n - 3 ≡ suc (length later) = omega arith in
    let whole : xs ≡ a ∷ b ∷ c ∷ x ∷ (later ++ rest) = sym (take-append-drop n xs) ∙ ap (λ (ys : List ℕ). ys ++ rest) (sym is) in
    ap (λ (ys : List ℕ). tag_of (components_of sp ys)) (whole ∙ ap (λ (y : ℕ). a ∷ b ∷ c ∷ y ∷ (later ++ rest)) (next x (take (length later) later) (ap (λ (k : ℕ). take k (x ∷ later)) after)))
    ∙ bare-next sp a b c bare_a bare_b bare_c (later ++ rest) tag
