-- For bodies and their invariants: the components of a segment that come after those that were read.
use Rattle.std.specs.Prelude.{ℕ, ◌+◌, ◌≡◌, ◌≢◌, ◌≤◌, false, List, [], ◌∷◌, ◌++◌, length, Option, Some, None}
use Rattle.std.specs.List.{enumerate_from, flat_map}
use Rattle.std.specs.Option.{ForSome}
use Rattle.edi_tables.specs.Octets.{Octets}
use Rattle.seg_lexer.specs.Fields.{PlacedComponent, component_in, components_in, cut, element_in, repetition_in, repetitions_in}
use Rattle.seg_lexer.specs.Released.{is_released}
use Rattle.seg_lexer.specs.Stretch.{Stretch}
use Rattle.seg_lexer.specs.declared.components.ComponentPlace.{ComponentPlace}
use Rattle.seg_lexer.specs.declared.service.Separators.{Separators}

-- the release character is no separator
abbrev pub AreApart : Separators → Type 0
AreApart sp = ForSome sp.release (λ r. (sp.element ≢ r) × (sp.component ≢ r) × ForSome sp.repetition (λ p. p ≢ r))

-- from component c of a repetition of an element on: the components of the first of these stretches, which belongs to
-- that repetition, and those of the later repetitions
abbrev pub repetitions_after : Separators → Octets → ℕ → ℕ → List (ℕ × Stretch) → List PlacedComponent
repetitions_after sp xs element c [] = []
repetitions_after sp xs element c (p ∷ ps) =
    components_in sp xs element p.0 (c, p.1) ++ flat_map (repetition_in sp xs element) ps

-- the components of a stretch, which is an element by its number, from component c of its repetition r on
abbrev pub element_from : Separators → Octets → ℕ → ℕ → ℕ × Stretch → List PlacedComponent
element_from sp xs r c p = repetitions_after sp xs p.0 c (enumerate_from r (repetitions_in sp xs p.0 p.1))

-- from component c of repetition r of an element on: the components of the first of these stretches, which belongs to
-- that element, and those of the later elements
abbrev pub fields_after : Separators → Octets → ℕ → ℕ → List (ℕ × Stretch) → List PlacedComponent
fields_after sp xs r c [] = []
fields_after sp xs r c (p ∷ ps) = element_from sp xs r c p ++ flat_map (element_in sp xs) ps

-- where component c of repetition r of an element begins: at octet a
abbrev pub place_by : ℕ → ℕ → ℕ → ℕ → ComponentPlace
place_by element r c a = record { at = a; element = element; repetition = r; component = c }

-- the components of a segment from the one on that begins at a place
unfoldable pub fields_from : Separators → Octets → ComponentPlace → List PlacedComponent
fields_from sp xs p =
    fields_after sp xs p.repetition p.component
    (enumerate_from p.element (cut sp.release xs sp.element p.at (length xs)))

-- a component may begin there: no octet of the segment releases the one there,
-- and its numbers are no greater than its place allows
pub record IsPlace (release : Option ℕ) (xs : Octets) (p : ComponentPlace) : Type 0 where
  pub within : p.at ≤ length xs
  pub element : p.element ≤ p.at
  pub repetition : p.repetition ≤ p.at + 1
  pub component : p.component ≤ p.at + 1
  pub free : is_released release xs 0 p.at ≡ false

-- the components of a segment from there on
abbrev pub rest_of : Separators → Octets → Option ComponentPlace → List PlacedComponent
rest_of sp xs None = []
rest_of sp xs (Some p) = fields_from sp xs p

-- the component that begins at a place and ends before place `stop` of the segment
abbrev pub component_to : Option ℕ → Octets → ComponentPlace → ℕ → PlacedComponent
component_to release xs p stop =
    component_in release xs p.element p.repetition (p.component, record { from = p.at; to = stop })

-- the component whose numbers a place has, with the stretch of the text that it is, and its value
abbrev pub placed_at : ComponentPlace → Stretch → Octets → PlacedComponent
placed_at p place octets =
    record { element = p.element; repetition = p.repetition; component = p.component; place = place; octets = octets }
