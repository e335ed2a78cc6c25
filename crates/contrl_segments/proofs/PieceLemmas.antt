-- A segment cut at its unreleased separators, read forwards: one octet after another, with one flag, that the next octet is released.
use Rattle.std.proofs.Common.{◌≡◌, ◌≢◌, ℕ, zero, suc, ◌+◌, ◌-◌, ◌<◌, ◌≤◌, Bool, false, not, ◌&&◌, cond, eqb, Option, Some, None, List, [], ◌∷◌, ◌++◌, length, get_or, map, take, drop, refl, sym, ap, ◌∙◌, inl, inr, subst, arith}
use Rattle.std.specs.List.{between, enumerate_from, filter, flat_map, range_with_len}
use Rattle.std.specs.Option.{ForSome}
use Rattle.std.proofs.lemmas.Bool.{and_left, and_parts, cases_Bool, eqb-true, ne_eqb}
use Rattle.std.proofs.lemmas.List.{append-nil, append_assoc, drop_more, get_or-drop, length-drop, map-append, take_all, take_more}
use Rattle.std.proofs.lemmas.List.Edits.{between_none}
use Rattle.seg_lexer.specs.Fields.{Component, component_in, components_of, cut, element_in, fields_of, is_cut, stretches, unplaced}
use Rattle.seg_lexer.specs.Stretch.{Stretch, octets_in, places_that}
use Rattle.seg_lexer.specs.Released.{is_release, is_released, value_of}
use Rattle.seg_lexer.specs.Scan.{releases}
use Rattle.seg_lexer.specs.declared.service.Separators.{Separators}
use Rattle.seg_lexer.proofs.PlacesLemmas.{filter-fail, filter-pass}
use Rattle.seg_lexer.proofs.RepeatLemmas.{one-repetition}
use Rattle.seg_lexer.proofs.ReleasedLemmas.{is_released-more, is_released-start}

-- octets put before the first of some parts
abbrev pub before : List ℕ → List (List ℕ) → List (List ℕ)
before xs [] = []
before xs (p ∷ ps) = (xs ++ p) ∷ ps

-- the parts between unreleased octets t, where the first octet is released (b) or isn't
abbrev pub pieces : Option ℕ → ℕ → Bool → List ℕ → List (List ℕ)
pieces release t b [] = [] ∷ []
pieces release t b (x ∷ xs) =
    cond (eqb x t && not b) ([] ∷ pieces release t (releases release b x) xs) (before (x ∷ []) (pieces release t (releases release b x) xs))

pub before-nil : (ps : List (List ℕ)) → before [] ps ≡ ps
before-nil [] = refl
before-nil (p ∷ ps) = refl

pub before-before : (xs ys : List ℕ) (ps : List (List ℕ)) → before xs (before ys ps) ≡ before (xs ++ ys) ps
before-before xs ys [] = refl
before-before xs ys (p ∷ ps) = ap (λ (q : List ℕ). q ∷ ps) (sym (append_assoc xs ys p))

between-more : (xs : List ℕ) (s i : ℕ) → s ≤ i → i < length xs → between s (i + 1) xs ≡ between s i xs ++ get_or xs i 0 ∷ []
between-more xs s i low within =
    let left : length (drop s xs) ≡ length xs - s = length-drop s xs in
    let more : i + 1 - s ≡ (i - s) + 1 = omega arith in
    let place : s + (i - s) ≡ i = omega arith in
    ap (λ (k : ℕ). take k (drop s xs)) more
    ∙ (take_more (drop s xs) (i - s) 0 (omega arith)
    ∙ ap (λ (x : ℕ). take (i - s) (drop s xs) ++ x ∷ []) (get_or-drop s xs (i - s) 0 ∙ ap (λ (k : ℕ). get_or xs k 0) place))

module _ (release : Option ℕ) (xs : List ℕ) (t : ℕ) where
  -- the stretches from place s on, of which those from place i on are not found yet
  found-parts : (s i n : ℕ) → s ≤ i → i + n ≤ length xs
      → map (octets_in xs) (stretches s (filter (is_cut release xs t) (range_with_len i n)) (i + n)) ≡ before (between s i xs) (pieces release t (is_released release xs 0 i) (take n (drop i xs)))
  unfolding stretches
  found-parts s i zero low within =
      let none : i + zero ≡ i = omega arith in
      ap (λ (k : ℕ). between s k xs ∷ []) none ∙ ap (λ (ys : List ℕ). ys ∷ []) (sym (append-nil (between s i xs)))
  found-parts s i (suc n) low within =
      let x : ℕ = get_or xs i 0 in
      let b : Bool = is_released release xs 0 i in
      let rest : List ℕ = take n (drop (i + 1) xs) in
      let next : Bool = is_released release xs 0 (i + 1) in
      let end : i + suc n ≡ i + 1 + n = omega arith in
      let flag : next ≡ releases release b x = is_released-more release xs 0 i (omega arith) (omega arith) in
      let shown : take (suc n) (drop i xs) ≡ x ∷ rest = ap (take (suc n)) (drop_more xs i 0 (omega arith)) in
      elim (cases_Bool (is_cut release xs t i)) [
        | inl here ↦
            ap (λ (cs : List ℕ). map (octets_in xs) (stretches s cs (i + suc n))) (filter-pass (is_cut release xs t) i n here)
            ∙ (ap (λ (k : ℕ). between s i xs ∷ map (octets_in xs) (stretches (i + 1) (filter (is_cut release xs t) (range_with_len (i + 1) n)) k)) end
            ∙ (ap (λ (ps : List (List ℕ)). between s i xs ∷ ps)
            (found-parts (i + 1) (i + 1) n (omega arith) (omega arith)
            ∙ (ap (λ (ys : List ℕ). before ys (pieces release t next rest)) (between_none xs (i + 1)) ∙ before-nil (pieces release t next rest)))
            ∙ (ap (λ (c : Bool). between s i xs ∷ pieces release t c rest) flag
            ∙ (ap (λ (ys : List ℕ). ys ∷ pieces release t (releases release b x) rest) (sym (append-nil (between s i xs)))
            ∙ (sym (ap (λ (c : Bool). before (between s i xs) (cond c ([] ∷ pieces release t (releases release b x) rest) (before (x ∷ []) (pieces release t (releases release b x) rest)))) here)
            ∙ sym (ap (λ (ys : List ℕ). before (between s i xs) (pieces release t b ys)) shown))))))
        | inr other ↦
            ap (λ (cs : List ℕ). map (octets_in xs) (stretches s cs (i + suc n))) (filter-fail (is_cut release xs t) i n other)
            ∙ (ap (λ (k : ℕ). map (octets_in xs) (stretches s (filter (is_cut release xs t) (range_with_len (i + 1) n)) k)) end
            ∙ (found-parts s (i + 1) n (omega arith) (omega arith)
            ∙ (ap (λ (ys : List ℕ). before ys (pieces release t next rest)) (between-more xs s i low (omega arith))
            ∙ (ap (λ (c : Bool). before (between s i xs ++ x ∷ []) (pieces release t c rest)) flag
            ∙ (sym (before-before (between s i xs) (x ∷ []) (pieces release t (releases release b x) rest))
            ∙ (sym (ap (λ (c : Bool). before (between s i xs) (cond c ([] ∷ pieces release t (releases release b x) rest) (before (x ∷ []) (pieces release t (releases release b x) rest)))) other)
            ∙ sym (ap (λ (ys : List ℕ). before (between s i xs) (pieces release t b ys)) shown)))))))
      ]

  -- a stretch of a list, cut at its unreleased octets t
  parts-is : (a b : ℕ) → a ≤ b → b ≤ length xs → is_released release xs 0 a ≡ false → map (octets_in xs) (cut release xs t a b) ≡ pieces release t false (between a b xs)
  unfolding places_that
  parts-is a b low within free =
      let end : a + (b - a) ≡ b = omega arith in
      ap (λ (k : ℕ). map (octets_in xs) (stretches a (filter (is_cut release xs t) (range_with_len a (b - a))) k)) (sym end)
      ∙ (found-parts a a (b - a) (omega arith) (omega arith)
      ∙ (ap (λ (ys : List ℕ). before ys (pieces release t (is_released release xs 0 a) (take (b - a) (drop a xs)))) (between_none xs a)
      ∙ (before-nil (pieces release t (is_released release xs 0 a) (take (b - a) (drop a xs)))
      ∙ ap (λ (c : Bool). pieces release t c (take (b - a) (drop a xs))) free)))

  -- a stretch that begins at an octet that isn't released
  pub record IsPart (p : Stretch) : Type 0 where
    pub ordered : p.from ≤ p.to
    pub within : p.to ≤ length xs
    pub free : is_released release xs 0 p.from ≡ false

  abbrev AllParts : List Stretch → Type 0
  AllParts [] = Unit {0}
  AllParts (p ∷ ps) = IsPart p × AllParts ps

  cut-parts : (apart : ForSome release (λ r. t ≢ r)) (s i n : ℕ) → s ≤ i → i + n ≤ length xs → is_released release xs 0 s ≡ false
      → AllParts (stretches s (filter (is_cut release xs t) (range_with_len i n)) (i + n))
  unfolding stretches
  cut-parts apart s i zero low within free = (record { ordered = omega arith; within = within; free = free }, tt)
  cut-parts apart s i (suc n) low within free =
      let end : i + 1 + n ≡ i + suc n = omega arith in
      elim (cases_Bool (is_cut release xs t i)) [
        | inl here ↦
            let x : get_or xs i 0 ≡ t = eqb-true (get_or xs i 0) t (and_parts (eqb (get_or xs i 0) t) (not (is_released release xs 0 i)) here).0 in
            let plain : (o : Option ℕ) → release ≡ o → is_release o (get_or xs i 0) ≡ false = elim [
              | None ↦ λ _. refl
              | Some r ↦ λ is. ne_eqb (get_or xs i 0) r (λ same. apart r is (sym x ∙ same))
            ] in
            let later : is_released release xs 0 (i + 1) ≡ false = is_released-more release xs 0 i (omega arith) (omega arith) ∙ and_left (is_release release (get_or xs i 0)) (not (is_released release xs 0 i)) (plain release refl) in
            rw (filter-pass (is_cut release xs t) i n here)
            (record { ordered = low; within = omega arith; free = free }, rw (← end) (cut-parts apart (i + 1) (i + 1) n (omega arith) (omega arith) later))
        | inr other ↦ rw (filter-fail (is_cut release xs t) i n other) (rw (← end) (cut-parts apart s (i + 1) n (omega arith) (omega arith) free))
      ]

-- the components of an element with these octets, by its number, where nothing separates repetitions
abbrev pub component_piece : Option ℕ → ℕ → ℕ × List ℕ → Component
component_piece release element p = record { element = element; repetition = 1; component = p.0; octets = value_of release p.1 }

abbrev pub element_pieces : Separators → ℕ × List ℕ → List Component
element_pieces sp p = map (component_piece sp.release p.0) (enumerate_from 1 (pieces sp.release sp.component false p.1))

module _ (sp : Separators) (xs : List ℕ) (single : sp.repetition ≡ None) where
  map-components : (element c : ℕ) (ps : List Stretch)
      → map unplaced (map (component_in sp.release xs element 1) (enumerate_from c ps)) ≡ map (component_piece sp.release element) (enumerate_from c (map (octets_in xs) ps))
  map-components element c [] = refl
  map-components element c (p ∷ ps) = ap (λ zs. component_piece sp.release element (c, octets_in xs p) ∷ zs) (map-components element (c + 1) ps)

  element-is : (element : ℕ) (p : Stretch) → IsPart sp.release xs sp.element p → map unplaced (element_in sp xs (element, p)) ≡ element_pieces sp (element, octets_in xs p)
  element-is element p part =
      ap (map unplaced) (one-repetition sp xs element single p)
      ∙ (map-components element 1 (cut sp.release xs sp.component p.from p.to)
      ∙ ap (λ (ps : List (List ℕ)). map (component_piece sp.release element) (enumerate_from 1 ps)) (parts-is sp.release xs sp.component p.from p.to part.ordered part.within part.free))

  elements-are : (n : ℕ) (ps : List Stretch) → AllParts sp.release xs sp.element ps
      → map unplaced (flat_map (element_in sp xs) (enumerate_from n ps)) ≡ flat_map (element_pieces sp) (enumerate_from n (map (octets_in xs) ps))
  elements-are n [] parts = refl
  elements-are n (p ∷ ps) parts =
      map-append unplaced (element_in sp xs (n, p)) (flat_map (element_in sp xs) (enumerate_from (n + 1) ps))
      ∙ (ap (λ zs. zs ++ map unplaced (flat_map (element_in sp xs) (enumerate_from (n + 1) ps))) (element-is n p parts.0)
      ∙ ap (λ zs. element_pieces sp (n, octets_in xs p) ++ zs) (elements-are (n + 1) ps parts.1))

  -- the components of a segment are those of its pieces
  pub components-are : ForSome sp.release (λ r. sp.element ≢ r) → components_of sp xs ≡ flat_map (element_pieces sp) (enumerate_from 0 (pieces sp.release sp.element false xs))
  unfolding fields_of places_that
  components-are apart =
      let all : length xs - 0 ≡ length xs = omega arith in
      let none : 0 + (length xs - 0) ≡ length xs = omega arith in
      let whole : between 0 (length xs) xs ≡ xs = ap (λ (k : ℕ). take k xs) all ∙ take_all (length xs) xs (omega arith) in
      let parts : AllParts sp.release xs sp.element (stretches 0 (filter (is_cut sp.release xs sp.element) (range_with_len 0 (length xs - 0))) (0 + (length xs - 0))) =
      cut-parts sp.release xs sp.element apart 0 0 (length xs - 0) (omega arith) (omega arith) (is_released-start sp.release xs 0) in
      elements-are 0 (cut sp.release xs sp.element 0 (length xs))
      (subst (λ (k : ℕ). AllParts sp.release xs sp.element (stretches 0 (filter (is_cut sp.release xs sp.element) (range_with_len 0 (length xs - 0))) k)) none parts)
      ∙ (ap (λ (ps : List (List ℕ)). flat_map (element_pieces sp) (enumerate_from 0 ps)) (parts-is sp.release xs sp.element 0 (length xs) (omega arith) (omega arith) (is_released-start sp.release xs 0))
      ∙ ap (λ (ys : List ℕ). flat_map (element_pieces sp) (enumerate_from 0 (pieces sp.release sp.element false ys))) whole)
