-- The components of a segment come in order.
use Rattle.std.proofs.Common.{◌≡◌, ℕ, ◌+◌, ◌≤◌, ◌<◌, Bool, false, ◌&&◌, cond, eqb, List, [], ◌∷◌, ◌++◌, length, Option, Some, None, refl, sym, ap, ◌∙◌, subst, arith}
use Rattle.std.specs.Prelude.{map}
use Rattle.std.specs.List.{between, enumerate_from, find, flat_map}
use Rattle.std.specs.Option.{option_map}
use Rattle.std.proofs.lemmas.Bool.{ne_eqb}
use Rattle.std.proofs.lemmas.List.{append_assoc}
use Rattle.edi_octets.specs.declared.octets.Octets.{Ghosts}
use Rattle.seg_lexer.specs.Fields.{Component, IsInOrder, PlacedComponent, component_in, components_in, components_of, cut, element_in, fields_of, octets_at, placed, repetition_in, repetitions_in, unplaced}
use Rattle.seg_lexer.specs.Left.{components_left, fields_left}
use Rattle.seg_lexer.specs.Place.{fields_after, fields_from, place_by, repetitions_after, rest_of}
use Rattle.seg_lexer.specs.Stretch.{Stretch}
use Rattle.seg_lexer.specs.declared.components.Fields.{Fields}
use Rattle.seg_lexer.specs.declared.components.ComponentPlace.{ComponentPlace}
use Rattle.seg_lexer.specs.declared.service.Separators.{Separators}
use Rattle.seg_lexer.proofs.CountLemmas.{map-unplaced-placed}

-- what is in order from m on is so from each number below
pub IsInOrder-lower : (n m : ℕ) (es : List Component) → n ≤ m → IsInOrder m es → IsInOrder n es
IsInOrder-lower n m [] le h = tt
IsInOrder-lower n m (e ∷ es) le h = let low = h.0 in (omega arith, h.1)

module _ (sp : Separators) (xs : List ℕ) where
  IsInOrder-components : (element r : ℕ) (ps : List (ℕ × Stretch)) (later : List PlacedComponent) → IsInOrder element (map unplaced later)
      → IsInOrder element (map unplaced (map (component_in sp.release xs element r) ps ++ later))
  IsInOrder-components element r [] later h = h
  IsInOrder-components element r (p ∷ ps) later h = (omega arith, IsInOrder-components element r ps later h)

  IsInOrder-repetitions : (element r : ℕ) (ss : List Stretch) (later : List PlacedComponent) → IsInOrder element (map unplaced later)
      → IsInOrder element (map unplaced (flat_map (repetition_in sp xs element) (enumerate_from r ss) ++ later))
  IsInOrder-repetitions element r [] later h = h
  IsInOrder-repetitions element r (s ∷ ss) later h =
      let others : List PlacedComponent = flat_map (repetition_in sp xs element) (enumerate_from (r + 1) ss) in
      subst (λ (fs : List PlacedComponent). IsInOrder element (map unplaced fs)) (sym (append_assoc (repetition_in sp xs element (r, s)) others later))
      (IsInOrder-components element r (enumerate_from 1 (cut sp.release xs sp.component s.from s.to)) (others ++ later) (IsInOrder-repetitions element (r + 1) ss later h))

  pub IsInOrder-elements : (element : ℕ) (ss : List Stretch) → IsInOrder element (map unplaced (flat_map (element_in sp xs) (enumerate_from element ss)))
  IsInOrder-elements element [] = tt
  IsInOrder-elements element (s ∷ ss) =
      IsInOrder-repetitions element 1 (repetitions_in sp xs element s) _ (IsInOrder-lower element (element + 1) _ (omega arith) (IsInOrder-elements (element + 1) ss))

  IsInOrder-rest : (element r c : ℕ) (ss : List Stretch) (later : List PlacedComponent) → IsInOrder element (map unplaced later)
      → IsInOrder element (map unplaced (repetitions_after sp xs element c (enumerate_from r ss) ++ later))
  IsInOrder-rest element r c [] later h = h
  IsInOrder-rest element r c (s ∷ ss) later h =
      let others : List PlacedComponent = flat_map (repetition_in sp xs element) (enumerate_from (r + 1) ss) in
      subst (λ (fs : List PlacedComponent). IsInOrder element (map unplaced fs)) (sym (append_assoc (components_in sp xs element r (c, s)) others later))
      (IsInOrder-components element r (enumerate_from c (cut sp.release xs sp.component s.from s.to)) (others ++ later) (IsInOrder-repetitions element (r + 1) ss later h))

  IsInOrder-after : (element r c : ℕ) (ss : List Stretch) → IsInOrder element (map unplaced (fields_after sp xs r c (enumerate_from element ss)))
  IsInOrder-after element r c [] = tt
  IsInOrder-after element r c (s ∷ ss) =
      IsInOrder-rest element r c (repetitions_in sp xs element s) _ (IsInOrder-lower element (element + 1) _ (omega arith) (IsInOrder-elements (element + 1) ss))

  -- from a component of an element on
  pub IsInOrder-from : (element r c a : ℕ) → IsInOrder element (map unplaced (fields_from sp xs (place_by element r c a)))
  unfolding fields_from
  IsInOrder-from element r c a = IsInOrder-after element r c (cut sp.release xs sp.element a (length xs))

-- what is left of a segment comes in order, from the element of the next component on
pub components_left-from : {O : Type 0} {o : Ghosts O} (f : Fields O o) (p : ComponentPlace) → f.place ≡ Some p → IsInOrder p.element (components_left f)
unfolding fields_left
components_left-from {o = o} f p is =
    let xs : List ℕ = between f.start f.end (o.octets f.text.now) in
    subst (λ q. IsInOrder p.element (map unplaced (map (placed f.start) (rest_of f.separators xs q)))) (sym is)
    (subst (IsInOrder p.element) (sym (map-unplaced-placed f.start (fields_from f.separators xs (place_by p.element p.repetition p.component p.at))))
    (IsInOrder-from f.separators xs p.element p.repetition p.component p.at))

module _ (sp : Separators) (xs : List ℕ) (start : ℕ) where
  rest-in_order : (q : Option ComponentPlace) → IsInOrder 0 (map unplaced (map (placed start) (rest_of sp xs q)))
  rest-in_order None = tt
  rest-in_order (Some p) =
      subst (IsInOrder 0) (sym (map-unplaced-placed start (fields_from sp xs (place_by p.element p.repetition p.component p.at))))
      (IsInOrder-lower 0 p.element _ (omega arith) (IsInOrder-from sp xs p.element p.repetition p.component p.at))

pub components_left-in_order : {O : Type 0} {o : Ghosts O} (f : Fields O o) → IsInOrder 0 (components_left f)
unfolding fields_left
components_left-in_order {o = o} f = rest-in_order f.separators (between f.start f.end (o.octets f.text.now)) f.start f.place

pub components_of-in_order : (sp : Separators) (xs : List ℕ) → IsInOrder 0 (components_of sp xs)
unfolding fields_of
components_of-in_order sp xs = IsInOrder-elements sp xs 0 (cut sp.release xs sp.element 0 (length xs))

-- the value of a component that is looked for, by a test of the element of the first one
abbrev at_by : ℕ → ℕ → Bool → Component → List Component → Option (List ℕ)
at_by element component b e es =
    option_map (λ e. e.octets) (cond (b && eqb e.repetition 1 && eqb e.component component) (Some e) (find (λ e. eqb e.element element && eqb e.repetition 1 && eqb e.component component) es))

-- no component of an element is among those of later elements
pub octets_at-past : (element component n : ℕ) (es : List Component) → element < n → IsInOrder n es → octets_at element component es ≡ None
octets_at-past element component n [] low order = refl
octets_at-past element component n (e ∷ es) low order =
    let above = order.0 in
    let other : eqb e.element element ≡ false = ne_eqb e.element element (λ same. omega arith) in
    ap (λ b. at_by element component b e es) other ∙ octets_at-past element component e.element es (omega arith) order.1
