-- How many components a segment has at most.
use Rattle.std.proofs.Common.{◌≡◌, ℕ, zero, suc, ◌+◌, ◌-◌, ◌≤◌, Bool, List, [], ◌∷◌, ◌++◌, length, refl, ap, arith, length-append}
use Rattle.std.specs.Prelude.{map}
use Rattle.std.specs.List.{enumerate_from, filter, flat_map, range_with_len}
use Rattle.std.proofs.lemmas.Bool.{cond_both}
use Rattle.std.proofs.lemmas.List.{length-map}
use Rattle.std.proofs.lemmas.List.FromFn.{length-enumerate_from, length-range_with_len}
use Rattle.seg_lexer.specs.Fields.{Component, PlacedComponent, component_in, components_in, cut_where, element_in, fields_of, is_cut, is_repeat, placed, repetition_in, stretches, unplaced}
use Rattle.seg_lexer.specs.Stretch.{Stretch, places_that}
use Rattle.seg_lexer.specs.declared.service.Separators.{Separators}
use Rattle.seg_lexer.proofs.PlacesLemmas.{length-filter-le}

length-stretches : (a : ℕ) (cuts : List ℕ) (b : ℕ) → length (stretches a cuts b) ≡ length cuts + 1
unfolding stretches
length-stretches a [] b = refl
length-stretches a (c ∷ cuts) b = let same = length-stretches (c + 1) cuts b in omega arith

length-places_that : (p : ℕ → Bool) (a b : ℕ) → length (places_that p a b) ≤ b - a
unfolding places_that
length-places_that p a b =
    let few : length (filter p (range_with_len a (b - a))) ≤ length (range_with_len a (b - a)) = length-filter-le p (range_with_len a (b - a)) in
    let all : length (range_with_len a (b - a)) ≡ b - a = length-range_with_len a (b - a) in
    omega arith

-- where each stretch has no more components than places and one, so have all that a..b is cut into, however it is cut
module _ (f : ℕ × Stretch → List PlacedComponent) (few : (n a b : ℕ) → a ≤ b → length (f (n, record { from = a; to = b })) ≤ (b - a) + 1) (p : ℕ → Bool) where
  abbrev all_of : List (ℕ × Stretch) → List PlacedComponent
  all_of ps = flat_map f ps

  length-all : (m s a n b : ℕ) → s ≤ a → a + n ≡ b → length (all_of (enumerate_from m (stretches s (filter p (range_with_len a n)) b))) ≤ (b - s) + 1
  unfolding stretches
  length-all m s a zero b low all =
      let one = few m s b (omega arith) in
      let joined : length (f (m, record { from = s; to = b }) ++ []) ≡ length (f (m, record { from = s; to = b })) + 0 = length-append (f (m, record { from = s; to = b })) [] in
      omega arith
  length-all m s a (suc n) b low all =
      let later : List ℕ = filter p (range_with_len (a + 1) n) in
      cond_both (p a) (a ∷ later) later (λ (cuts : List ℕ). length (all_of (enumerate_from m (stretches s cuts b))) ≤ (b - s) + 1)
      (λ _.
      let first = few m s a low in
      let rest = length-all (m + 1) (a + 1) (a + 1) n b (omega arith) (omega arith) in
      let joined : length (f (m, record { from = s; to = a }) ++ all_of (enumerate_from (m + 1) (stretches (a + 1) later b)))
      ≡ length (f (m, record { from = s; to = a })) + length (all_of (enumerate_from (m + 1) (stretches (a + 1) later b))) =
      length-append (f (m, record { from = s; to = a })) (all_of (enumerate_from (m + 1) (stretches (a + 1) later b))) in
      omega arith)
      (λ _. length-all m s (a + 1) n b (omega arith) (omega arith))

  length-cut : (m a b : ℕ) → a ≤ b → length (all_of (enumerate_from m (cut_where p a b))) ≤ (b - a) + 1
  unfolding places_that
  length-cut m a b low = length-all m a a (b - a) b (omega arith) (omega arith)

module _ (sp : Separators) (xs : List ℕ) where
  length-components_in : (element r c a b : ℕ) → length (components_in sp xs element r (c, record { from = a; to = b })) ≤ (b - a) + 1
  length-components_in element r c a b =
      let cuts : List ℕ = places_that (is_cut sp.release xs sp.component) a b in
      let all : length (components_in sp xs element r (c, record { from = a; to = b })) ≡ length (enumerate_from c (stretches a cuts b)) = length-map (enumerate_from c (stretches a cuts b)) (component_in sp.release xs element r) in
      let numbered : length (enumerate_from c (stretches a cuts b)) ≡ length (stretches a cuts b) = length-enumerate_from c (stretches a cuts b) in
      let parts : length (stretches a cuts b) ≡ length cuts + 1 = length-stretches a cuts b in
      let few : length cuts ≤ b - a = length-places_that (is_cut sp.release xs sp.component) a b in
      omega arith

  length-element_in : (element a b : ℕ) → a ≤ b → length (element_in sp xs (element, record { from = a; to = b })) ≤ (b - a) + 1
  length-element_in element a b low =
      length-cut (repetition_in sp xs element) (λ r from to _. length-components_in element r 1 from to) (is_repeat sp xs element) 1 a b low

-- a segment has no more components than octets and one
pub length-fields_of : (sp : Separators) (xs : List ℕ) → length (fields_of sp xs) ≤ length xs + 1
unfolding fields_of
length-fields_of sp xs =
    let few = length-cut (element_in sp xs) (length-element_in sp xs) (is_cut sp.release xs sp.element) 0 0 (length xs) (omega arith) in
    omega arith

-- what is seen without places doesn't depend on them
pub map-unplaced-placed : (start : ℕ) (fs : List PlacedComponent) → map unplaced (map (placed start) fs) ≡ map unplaced fs
map-unplaced-placed start [] = refl
map-unplaced-placed start (f ∷ fs) = ap (λ (es : List Component). unplaced f ∷ es) (map-unplaced-placed start fs)
