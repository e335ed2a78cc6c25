-- The components that are left of a segment come in order of elements and repetitions.
use Rattle.std.proofs.Common.{◌≡◌, ℕ, ◌+◌, List, [], ◌∷◌, ◌++◌, length, Option, Some, None, refl, sym, ap, ◌∙◌, subst, arith}
use Rattle.std.specs.Prelude.{map}
use Rattle.std.specs.List.{between, enumerate_from, flat_map}
use Rattle.std.proofs.lemmas.List.{append_assoc}
use Rattle.edi_octets.specs.declared.octets.Octets.{Ghosts}
use Rattle.seg_lexer.specs.Fields.{Component, PlacedComponent, component_in, components_in, cut, element_in, placed, repetition_in, repetitions_in, unplaced}
use Rattle.seg_lexer.specs.Left.{components_left, fields_left}
use Rattle.seg_lexer.specs.Place.{fields_after, fields_from, place_by, repetitions_after, rest_of}
use Rattle.seg_lexer.specs.Stretch.{Stretch}
use Rattle.seg_lexer.specs.Tag.{past_tag_field}
use Rattle.seg_lexer.specs.declared.components.Fields.{Fields}
use Rattle.seg_lexer.specs.declared.components.ComponentPlace.{ComponentPlace}
use Rattle.seg_lexer.specs.declared.service.Separators.{Separators}
use Rattle.element_check.specs.Streams.{AreOrdered}
use Rattle.element_check.proofs.BridgeLemmas.{past-front}
use Rattle.element_check.proofs.RunLemmas.{ordered-after, ordered-in_order, ordered-more}

-- where a segment begins makes no difference
map-unplaced-placed : (start : ℕ) (fs : List PlacedComponent) → map unplaced (map (placed start) fs) ≡ map unplaced fs
map-unplaced-placed start [] = refl
map-unplaced-placed start (f ∷ fs) = ap (λ (cs : List Component). unplaced f ∷ cs) (map-unplaced-placed start fs)

-- components of later elements are in order after each repetition
later-ordered : (element r : ℕ) (xs : List Component) → AreOrdered (element + 1) 0 xs → AreOrdered element r xs
later-ordered element r [] order = tt
later-ordered element r (x ∷ xs) order = let first = order.0 in (omega arith, (λ is. omega arith), order.2)

module _ (sp : Separators) (xs : List ℕ) where
  ordered-components : (element r : ℕ) (ps : List (ℕ × Stretch)) (later : List PlacedComponent) → AreOrdered element r (map unplaced later)
      → AreOrdered element r (map unplaced (map (component_in sp.release xs element r) ps ++ later))
  ordered-components element r [] later h = h
  ordered-components element r (p ∷ ps) later h = (omega arith, (λ is. omega arith), ordered-components element r ps later h)

  ordered-repetitions : (element r : ℕ) (ss : List Stretch) (later : List PlacedComponent) → AreOrdered (element + 1) 0 (map unplaced later)
      → AreOrdered element r (map unplaced (flat_map (repetition_in sp xs element) (enumerate_from r ss) ++ later))
  ordered-repetitions element r [] later h = later-ordered element r (map unplaced later) h
  ordered-repetitions element r (s ∷ ss) later h =
      let others : List PlacedComponent = flat_map (repetition_in sp xs element) (enumerate_from (r + 1) ss) in
      subst (λ (fs : List PlacedComponent). AreOrdered element r (map unplaced fs)) (sym (append_assoc (repetition_in sp xs element (r, s)) others later))
      (ordered-components element r (enumerate_from 1 (cut sp.release xs sp.component s.from s.to)) (others ++ later)
      (ordered-more element (r + 1) r (map unplaced (others ++ later)) (omega arith) (ordered-repetitions element (r + 1) ss later h)))

  ordered-elements : (element : ℕ) (ss : List Stretch) → AreOrdered element 0 (map unplaced (flat_map (element_in sp xs) (enumerate_from element ss)))
  ordered-elements element [] = tt
  ordered-elements element (s ∷ ss) =
      ordered-more element 1 0 _ (omega arith) (ordered-repetitions element 1 (repetitions_in sp xs element s) _ (ordered-elements (element + 1) ss))

  ordered-rest : (element r c : ℕ) (ss : List Stretch) (later : List PlacedComponent) → AreOrdered (element + 1) 0 (map unplaced later)
      → AreOrdered element r (map unplaced (repetitions_after sp xs element c (enumerate_from r ss) ++ later))
  ordered-rest element r c [] later h = later-ordered element r (map unplaced later) h
  ordered-rest element r c (s ∷ ss) later h =
      let others : List PlacedComponent = flat_map (repetition_in sp xs element) (enumerate_from (r + 1) ss) in
      subst (λ (fs : List PlacedComponent). AreOrdered element r (map unplaced fs)) (sym (append_assoc (components_in sp xs element r (c, s)) others later))
      (ordered-components element r (enumerate_from c (cut sp.release xs sp.component s.from s.to)) (others ++ later)
      (ordered-more element (r + 1) r (map unplaced (others ++ later)) (omega arith) (ordered-repetitions element (r + 1) ss later h)))

  ordered-after_place : (element r c : ℕ) (ss : List Stretch) → AreOrdered element r (map unplaced (fields_after sp xs r c (enumerate_from element ss)))
  ordered-after_place element r c [] = tt
  ordered-after_place element r c (s ∷ ss) = ordered-rest element r c (repetitions_in sp xs element s) _ (ordered-elements (element + 1) ss)

  ordered-from : (element r c a : ℕ) → AreOrdered element r (map unplaced (fields_from sp xs (place_by element r c a)))
  unfolding fields_from
  ordered-from element r c a = ordered-after_place element r c (cut sp.release xs sp.element a (length xs))

-- what is in order from an element on is so from element 0 on
ordered-zero : (element r : ℕ) (xs : List Component) → AreOrdered element r xs → AreOrdered 0 0 xs
ordered-zero element r [] order = tt
ordered-zero element r (x ∷ xs) order = (omega arith, (λ is. omega arith), order.2)

module _ (sp : Separators) (xs : List ℕ) (start : ℕ) where
  rest-ordered : (q : Option ComponentPlace) → AreOrdered 0 0 (map unplaced (map (placed start) (rest_of sp xs q)))
  rest-ordered None = tt
  rest-ordered (Some p) =
      subst (AreOrdered 0 0) (sym (map-unplaced-placed start (fields_from sp xs (place_by p.element p.repetition p.component p.at))))
      (ordered-zero p.element p.repetition _ (ordered-from sp xs p.element p.repetition p.component p.at))

components_left-ordered : {O : Type 0} {o : Ghosts O} (f : Fields O o) → AreOrdered 0 0 (components_left f)
unfolding fields_left
components_left-ordered {o = o} f = rest-ordered f.separators (between f.start f.end (o.octets f.text.now)) f.start f.place

-- and so are those past the tag field
pub past-ordered : {O : Type 0} {o : Ghosts O} (f : Fields O o) (past : List PlacedComponent) → past ≡ past_tag_field (fields_left f) → AreOrdered 1 0 (map unplaced past)
past-ordered f past is =
    let order = components_left-ordered f in
    subst (AreOrdered 1 0) (sym (ap (map unplaced) is ∙ past-front (fields_left f) (ordered-in_order 0 0 (components_left f) order)))
    (ordered-after 0 0 (components_left f) order)
