-- The components of a segment, one after another.
use Rattle.std.proofs.Common.{◌≡◌, ℕ, ◌+◌, ◌<◌, ◌≤◌, Bool, true, List, [], ◌∷◌, ◌++◌, length, Some, refl, sym, ap, ◌∙◌, arith}
use Rattle.std.specs.Prelude.{map}
use Rattle.std.specs.List.{enumerate_from, flat_map, slice_get}
use Rattle.memchr.specs.Find.{Nowhere}
use Rattle.seg_lexer.specs.Fields.{PlacedComponent, component_in, components_in, cut, cut_where, element_in, fields_of, is_cut, is_repeat, repetition_in, repetitions_in, stretches}
use Rattle.seg_lexer.specs.Stretch.{Stretch, places_that}
use Rattle.seg_lexer.specs.Place.{element_from, fields_after, fields_from, place_by, repetitions_after}
use Rattle.seg_lexer.specs.declared.service.Separators.{Separators}
use Rattle.seg_lexer.proofs.PlacesLemmas.{places_that-first, places_that-later, places_that-none, places_that-within}

module _ (passes : ℕ → Bool) where
  pub cut-none : (a b : ℕ) → Nowhere (λ i. passes i ≡ true) a b → cut_where passes a b ≡ record { from = a; to = b } ∷ []
  unfolding stretches
  cut-none a b none = ap (λ (cs : List ℕ). stretches a cs b) (places_that-none passes a b none)

  cut-first : (a j b : ℕ) → a ≤ j → j < b → Nowhere (λ i. passes i ≡ true) a j → passes j ≡ true → cut_where passes a b ≡ record { from = a; to = j } ∷ cut_where passes (j + 1) b
  unfolding stretches
  cut-first a j b low high none here = ap (λ (cs : List ℕ). stretches a cs b) (places_that-first passes a j b low high none here)

-- from the first component of a repetition on these are the components of whole repetitions
repetitions_after-whole : (sp : Separators) (xs : List ℕ) (element : ℕ) (ps : List (ℕ × Stretch)) → repetitions_after sp xs element 1 ps ≡ flat_map (repetition_in sp xs element) ps
repetitions_after-whole sp xs element [] = refl
repetitions_after-whole sp xs element (p ∷ ps) = refl

-- from the first component of an element on these are the components of whole elements
fields_after-whole : (sp : Separators) (xs : List ℕ) (ps : List (ℕ × Stretch)) → fields_after sp xs 1 1 ps ≡ flat_map (element_in sp xs) ps
fields_after-whole sp xs [] = refl
fields_after-whole sp xs (p ∷ ps) =
    ap (λ fs. fs ++ flat_map (element_in sp xs) ps) (repetitions_after-whole sp xs p.0 (enumerate_from 1 (repetitions_in sp xs p.0 p.1)))

-- all components of a segment are those from its first octet on
pub fields_of-from : (sp : Separators) (xs : List ℕ) → fields_from sp xs (place_by 0 1 1 0) ≡ fields_of sp xs
unfolding fields_from fields_of
fields_of-from sp xs = fields_after-whole sp xs (enumerate_from 0 (cut sp.release xs sp.element 0 (length xs)))

module _ (sp : Separators) (xs : List ℕ) (element r c a : ℕ) where
  abbrev NoComponent : ℕ → Type 0
  NoComponent j = Nowhere (λ i. is_cut sp.release xs sp.component i ≡ true) a j

  abbrev NoRepeat : ℕ → Type 0
  NoRepeat j = Nowhere (λ i. is_repeat sp xs element i ≡ true) a j

  abbrev NoElement : ℕ → Type 0
  NoElement j = Nowhere (λ i. is_cut sp.release xs sp.element i ≡ true) a j

  -- the component that begins here and ends before place j
  abbrev here-to : ℕ → PlacedComponent
  here-to j = component_in sp.release xs element r (c, record { from = a; to = j })

  one-component : (b : ℕ) → NoComponent b → components_in sp xs element r (c, record { from = a; to = b }) ≡ here-to b ∷ []
  one-component b none = ap (λ ss. map (component_in sp.release xs element r) (enumerate_from c ss)) (cut-none (is_cut sp.release xs sp.component) a b none)

  -- the last component of an element
  one-left : (b : ℕ) → NoRepeat b → NoComponent b → element_from sp xs r c (element, record { from = a; to = b }) ≡ here-to b ∷ []
  one-left b no_repeat no_component =
      ap (λ ss. repetitions_after sp xs element c (enumerate_from r ss)) (cut-none (is_repeat sp xs element) a b no_repeat)
      ∙ ap (λ fs. fs ++ []) (one-component b no_component)

  -- the last component
  pub fields_from-last : NoElement (length xs) → NoRepeat (length xs) → NoComponent (length xs) → fields_from sp xs (place_by element r c a) ≡ here-to (length xs) ∷ []
  unfolding fields_from
  fields_from-last no_element no_repeat no_component =
      ap (λ ss. fields_after sp xs r c (enumerate_from element ss)) (cut-none (is_cut sp.release xs sp.element) a (length xs) no_element)
      ∙ ap (λ fs. fs ++ []) (one-left (length xs) no_repeat no_component)

  -- the last component of an element, before another element
  pub fields_from-element : (j : ℕ) → a ≤ j → j < length xs → NoElement j → NoRepeat j → NoComponent j → is_cut sp.release xs sp.element j ≡ true
      → fields_from sp xs (place_by element r c a) ≡ here-to j ∷ fields_from sp xs (place_by (element + 1) 1 1 (j + 1))
  unfolding fields_from
  fields_from-element j low high no_element no_repeat no_component here =
      let later : List (ℕ × Stretch) = enumerate_from (element + 1) (cut sp.release xs sp.element (j + 1) (length xs)) in
      ap (λ ss. fields_after sp xs r c (enumerate_from element ss)) (cut-first (is_cut sp.release xs sp.element) a j (length xs) low high no_element here)
      ∙ (ap (λ fs. fs ++ flat_map (element_in sp xs) later) (one-left j no_repeat no_component)
      ∙ ap (λ fs. here-to j ∷ fs) (sym (fields_after-whole sp xs later)))

  -- place j ends the first component, and component c' of repetition r' comes next, wherever the stretch ends
  abbrev IsStep : ℕ → ℕ → ℕ → Type 0
  IsStep j r' c' =
      (b : ℕ) → j < b → element_from sp xs r c (element, record { from = a; to = b }) ≡ here-to j ∷ element_from sp xs r' c' (element, record { from = j + 1; to = b })

  -- where the next element begins makes no difference to the first component
  by-elements : (j r' c' end : ℕ) → j < end → IsStep j r' c' → (cuts : List ℕ) → ((k : ℕ) → slice_get cuts 0 ≡ Some k → j < k)
      → fields_after sp xs r c (enumerate_from element (stretches a cuts end)) ≡ here-to j ∷ fields_after sp xs r' c' (enumerate_from element (stretches (j + 1) cuts end))
  unfolding stretches
  by-elements j r' c' end high step [] after = ap (λ fs. fs ++ []) (step end high)
  by-elements j r' c' end high step (k ∷ cuts) after =
      ap (λ fs. fs ++ flat_map (element_in sp xs) (enumerate_from (element + 1) (stretches (k + 1) cuts end))) (step k (after k refl))

  within-element : (j r' c' : ℕ) → a ≤ j → j < length xs → NoElement (j + 1) → IsStep j r' c' → fields_from sp xs (place_by element r c a) ≡ here-to j ∷ fields_from sp xs (place_by element r' c' (j + 1))
  unfolding fields_from
  within-element j r' c' low high no_element step =
      let cuts : List ℕ = places_that (is_cut sp.release xs sp.element) (j + 1) (length xs) in
      ap (λ cs. fields_after sp xs r c (enumerate_from element (stretches a cs (length xs)))) (places_that-later (is_cut sp.release xs sp.element) a (j + 1) (length xs) (omega arith) (omega arith) no_element)
      ∙ by-elements j r' c' (length xs) high step cuts (λ k found. let within = places_that-within (is_cut sp.release xs sp.element) (j + 1) (length xs) k found in omega arith)

  repeat-step : (j : ℕ) → a ≤ j → NoRepeat j → NoComponent j → is_repeat sp xs element j ≡ true → IsStep j (r + 1) 1
  repeat-step j low no_repeat no_component here b high =
      let later : List (ℕ × Stretch) = enumerate_from (r + 1) (cut_where (is_repeat sp xs element) (j + 1) b) in
      ap (λ ss. repetitions_after sp xs element c (enumerate_from r ss)) (cut-first (is_repeat sp xs element) a j b low high no_repeat here)
      ∙ (ap (λ fs. fs ++ flat_map (repetition_in sp xs element) later) (one-component j no_component)
      ∙ ap (λ fs. here-to j ∷ fs) (sym (repetitions_after-whole sp xs element later)))

  -- the last component of a repetition, before another one of its element
  pub fields_from-repetition : (j : ℕ) → a ≤ j → j < length xs → NoElement (j + 1) → NoRepeat j → NoComponent j → is_repeat sp xs element j ≡ true
      → fields_from sp xs (place_by element r c a) ≡ here-to j ∷ fields_from sp xs (place_by element (r + 1) 1 (j + 1))
  fields_from-repetition j low high no_element no_repeat no_component here =
      within-element j (r + 1) 1 low high no_element (repeat-step j low no_repeat no_component here)

  component-first : (j b : ℕ) → a ≤ j → j < b → NoComponent j → is_cut sp.release xs sp.component j ≡ true
      → components_in sp xs element r (c, record { from = a; to = b }) ≡ here-to j ∷ components_in sp xs element r (c + 1, record { from = j + 1; to = b })
  component-first j b low high none here =
      ap (λ ss. map (component_in sp.release xs element r) (enumerate_from c ss)) (cut-first (is_cut sp.release xs sp.component) a j b low high none here)

  -- where the next repetition begins makes no difference to the first component
  by-repetitions : (j end : ℕ) → a ≤ j → j < end → NoComponent j → is_cut sp.release xs sp.component j ≡ true → (cuts : List ℕ) → ((k : ℕ) → slice_get cuts 0 ≡ Some k → j < k)
      → repetitions_after sp xs element c (enumerate_from r (stretches a cuts end)) ≡ here-to j ∷ repetitions_after sp xs element (c + 1) (enumerate_from r (stretches (j + 1) cuts end))
  unfolding stretches
  by-repetitions j end low high none here [] after = ap (λ fs. fs ++ []) (component-first j end low high none here)
  by-repetitions j end low high none here (k ∷ cuts) after =
      ap (λ fs. fs ++ flat_map (repetition_in sp xs element) (enumerate_from (r + 1) (stretches (k + 1) cuts end))) (component-first j k low (after k refl) none here)

  component-step : (j : ℕ) → a ≤ j → NoRepeat (j + 1) → NoComponent j → is_cut sp.release xs sp.component j ≡ true → IsStep j r (c + 1)
  component-step j low no_repeat no_component here b high =
      let cuts : List ℕ = places_that (is_repeat sp xs element) (j + 1) b in
      ap (λ cs. repetitions_after sp xs element c (enumerate_from r (stretches a cs b))) (places_that-later (is_repeat sp xs element) a (j + 1) b (omega arith) (omega arith) no_repeat)
      ∙ by-repetitions j b low high no_component here cuts (λ k found. let within = places_that-within (is_repeat sp xs element) (j + 1) b k found in omega arith)

  -- a component before another one of its repetition
  pub fields_from-component : (j : ℕ) → a ≤ j → j < length xs → NoElement (j + 1) → NoRepeat (j + 1) → NoComponent j → is_cut sp.release xs sp.component j ≡ true
      → fields_from sp xs (place_by element r c a) ≡ here-to j ∷ fields_from sp xs (place_by element r (c + 1) (j + 1))
  fields_from-component j low high no_element no_repeat no_component here =
      within-element j r (c + 1) low high no_element (component-step j low no_repeat no_component here)
