-- The components of a segment that has neither release character nor repetition separator.
use Rattle.std.proofs.Common.{◌≡◌, ◌≢◌, ℕ, zero, suc, ◌+◌, ◌<◌, ◌≤◌, eqb, Bool, true, false, not, ◌&&◌, ◌||◌, List, [], ◌∷◌, get_or, length, Some, None, refl, sym, ap, ◌∙◌, inl, inr, ⊎_elim, arith}
use Rattle.std.proofs.Math.Nat.{eq-or-lt_of_le}
use Rattle.std.specs.Prelude.{map}
use Rattle.std.specs.List.{between, list_any}
use Rattle.std.proofs.lemmas.Bool.{and_from, and_parts, cases_Bool, eq-eqb, eqb-true, both_ways}
use Rattle.std.proofs.lemmas.List.Edits.{get_or-between, length-between}
use Rattle.std.proofs.lemmas.List.Folds.{list_any_at}
use Rattle.memchr.specs.Find.{NoneBefore, Nowhere}
use Rattle.seg_lexer.specs.Fields.{Component, components_of, is_cut, is_repeat, is_repeating, is_separator, unplaced}
use Rattle.seg_lexer.specs.Released.{is_release, is_released, value_of}
use Rattle.seg_lexer.specs.Place.{fields_from, place_by}
use Rattle.seg_lexer.specs.declared.service.Separators.{Separators}
use Rattle.seg_lexer.proofs.FieldsLemmas.{fields_from-component, fields_from-element, fields_from-last, fields_of-from}
use Rattle.seg_lexer.proofs.ForwardLemmas.{value_of-all}
use Rattle.seg_lexer.proofs.ReleasedLemmas.{is_released-more, is_released-start}
use Rattle.clean_segments.specs.Start.{IsSeparator, IsStart, plain_rest}
use Rattle.clean_segments.specs.declared.fields.Start.{Start}

-- the first component of a segment
abbrev pub first : Start
first = record { at = 0; element = 0; component = 1 }

pub first-stands : (xs : List ℕ) → IsStart xs first
first-stands xs = record { within = omega arith; element = omega arith; component = omega arith }

-- all components are those from the first on
pub from-first : (sp : Separators) (xs : List ℕ) → plain_rest sp xs (Some first) ≡ components_of sp xs
from-first sp xs = ap (map unplaced) (fields_of-from sp xs)

-- no octet passes a test where none is found
pub none-any : (p : ℕ → Bool) (ys : List ℕ) → ((k : ℕ) → k < length ys → p (get_or ys k 0) ≡ false) → list_any p ys ≡ false
none-any p [] none = refl
none-any p (y ∷ ys) none =
    ap (λ (b : Bool). b || list_any p ys) (none 0 (omega arith))
    ∙ none-any p ys (λ k low. none (suc k) (omega (arith, low)))

-- where no octet of a list passes a test, none does at a place
pub none-at : (p : ℕ → Bool) (xs : List ℕ) → list_any p xs ≡ false → (i : ℕ) → i < length xs → p (get_or xs i 0) ≡ false
none-at p xs none i within = elim (cases_Bool (p (get_or xs i 0))) [
  | inl is ↦ absurd (both_ways _ none (list_any_at p xs i 0 within is))
  | inr other ↦ other
]

-- the first n octets have neither release character nor repetition separator
module _ (sp : Separators) (xs : List ℕ) (n : ℕ) (most : n ≤ length xs)
    (plain : (i : ℕ) → i < n → is_release sp.release (get_or xs i 0) ≡ false)
    (single : (i : ℕ) → i < n → is_separator sp.repetition (get_or xs i 0) ≡ false) where
  unreleased : (i : ℕ) → i ≤ n → is_released sp.release xs 0 i ≡ false
  unreleased zero within = is_released-start sp.release xs 0
  unreleased (suc i) within =
      let next : suc i ≡ i + 1 = omega arith in
      ap (is_released sp.release xs 0) next
      ∙ is_released-more sp.release xs 0 i (omega arith) (omega arith)
      ∙ ap (λ (b : Bool). b && not (is_released sp.release xs 0 i)) (plain i (omega arith))

  part-plain : (a b : ℕ) → a ≤ b → b ≤ n → list_any (is_release sp.release) (between a b xs) ≡ false
  part-plain a b le within = none-any (is_release sp.release) (between a b xs)
      (λ k low.
      let long = length-between xs a b (omega arith) in
      let here : a + k < b = omega (arith, low, long) in
      ap (is_release sp.release) (get_or-between xs a b k 0 here) ∙ plain (a + k) (omega (arith, here)))

  kept : (a b : ℕ) → a ≤ b → b ≤ n → value_of sp.release (between a b xs) ≡ between a b xs
  kept a b le within = value_of-all sp.release (between a b xs) (part-plain a b le within)

  no-cut : (separator a b : ℕ) → ((k : ℕ) → a ≤ k → k < b → get_or xs k 0 ≡ separator → ⊥) → Nowhere (λ i. is_cut sp.release xs separator i ≡ true) a b
  no-cut separator a b none k low high cut = none k low high (eqb-true _ _ (and_parts _ _ cut).0)

  none-repeats : (element a b : ℕ) → b ≤ n → Nowhere (λ i. is_repeat sp xs element i ≡ true) a b
  none-repeats element a b within k low high is =
      both_ways _ (single k (omega arith)) (and_parts _ _ (and_parts (is_repeating sp element (get_or xs k 0)) _ is).0).1

  a-cut : (separator j : ℕ) → j ≤ n → get_or xs j 0 ≡ separator → is_cut sp.release xs separator j ≡ true
  a-cut separator j within is = and_from _ _ (eq-eqb _ _ is) (ap not (unreleased j within))

  abbrev component : Start → ℕ → Component
  component s b = record { element = s.element; repetition = 1; component = s.component; octets = between s.at b xs }

  -- the last component
  pub plain-last : (s : Start) → s.at ≤ length xs → length xs ≤ n → Nowhere (IsSeparator sp xs) s.at (length xs) → plain_rest sp xs (Some s) ≡ component s (length xs) ∷ plain_rest sp xs None
  plain-last s within all none =
      ap (map unplaced) (fields_from-last sp xs s.element 1 s.component s.at
      (no-cut sp.element s.at (length xs) (λ k low high is. none k low high (inl is)))
      (none-repeats s.element s.at (length xs) all)
      (no-cut sp.component s.at (length xs) (λ k low high is. none k low high (inr is))))
      ∙ ap (λ (ys : List ℕ). record { element = s.element; repetition = 1; component = s.component; octets = ys } ∷ []) (kept s.at (length xs) within all)

  module _ (s : Start) (j : ℕ) (until : j < n) (before : NoneBefore (IsSeparator sp xs) s.at (length xs) j) where
    no-element : Nowhere (λ i. is_cut sp.release xs sp.element i ≡ true) s.at j
    no-element = no-cut sp.element s.at j (λ k low high is. before.before k low high (inl is))

    no-component : Nowhere (λ i. is_cut sp.release xs sp.component i ≡ true) s.at j
    no-component = no-cut sp.component s.at j (λ k low high is. before.before k low high (inr is))

    -- the last component of an element
    pub plain-element : (p : Start) → get_or xs j 0 ≡ sp.element → p ≡ record { at = j + 1; element = s.element + 1; component = 1 }
        → plain_rest sp xs (Some s) ≡ component s j ∷ plain_rest sp xs (Some p)
    plain-element p is p_is =
        let within : j ≤ n = omega arith in
        ap (map unplaced) (fields_from-element sp xs s.element 1 s.component s.at j before.low before.high no-element (none-repeats s.element s.at j within) no-component (a-cut sp.element j within is))
        ∙ ap (λ (ys : List ℕ). record { element = s.element; repetition = 1; component = s.component; octets = ys } ∷ map unplaced (fields_from sp xs (place_by (s.element + 1) 1 1 (j + 1)))) (kept s.at j before.low within)
        ∙ sym (ap (λ (q : Start). component s j ∷ plain_rest sp xs (Some q)) p_is)

    -- a component before another one of its element
    pub plain-component : (p : Start) → get_or xs j 0 ≢ sp.element → IsSeparator sp xs j → p ≡ record { at = j + 1; element = s.element; component = s.component + 1 }
        → plain_rest sp xs (Some s) ≡ component s j ∷ plain_rest sp xs (Some p)
    plain-component p other is p_is =
        let high = before.high in
        let low = before.low in
        let within : j ≤ n = omega arith in
        let here : get_or xs j 0 ≡ sp.component = ⊎_elim (λ same. absurd (other same)) (λ same. same) is in
        let none : (k : ℕ) → s.at ≤ k → k < j + 1 → get_or xs k 0 ≡ sp.element → ⊥ = λ k low high same.
        elim (eq-or-lt_of_le {n = k} {m = j} (omega arith)) [
          | inl at ↦ other (sym (ap (λ (i : ℕ). get_or xs i 0) at) ∙ same)
          | inr less ↦ before.before k low less (inl same)
        ] in
        ap (map unplaced) (fields_from-component sp xs s.element 1 s.component s.at j low high (no-cut sp.element s.at (j + 1) none) (none-repeats s.element s.at (j + 1) (omega arith)) no-component (a-cut sp.component j within here))
        ∙ ap (λ (ys : List ℕ). record { element = s.element; repetition = 1; component = s.component; octets = ys } ∷ map unplaced (fields_from sp xs (place_by s.element 1 (s.component + 1) (j + 1)))) (kept s.at j low within)
        ∙ sym (ap (λ (q : Start). component s j ∷ plain_rest sp xs (Some q)) p_is)

    -- a component before another one, by the separator that ends it
    pub plain-next : (p : Start) → (get_or xs j 0 ≡ sp.element → p ≡ record { at = j + 1; element = s.element + 1; component = 1 })
        → (get_or xs j 0 ≢ sp.element → p ≡ record { at = j + 1; element = s.element; component = s.component + 1 }) → IsSeparator sp xs j
        → plain_rest sp xs (Some s) ≡ component s j ∷ plain_rest sp xs (Some p)
    plain-next p at_element at_other is = elim (cases_Bool (eqb (get_or xs j 0) sp.element)) [
      | inl same ↦ let here = eqb-true _ _ same in plain-element p here (at_element here)
      | inr differs ↦
          let other : get_or xs j 0 ≢ sp.element = λ same. both_ways _ differs (eq-eqb _ _ same) in
          plain-component p other is (at_other other)
    ]
