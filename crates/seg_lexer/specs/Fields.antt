-- Components of a segment (ISO 9735): elements are separated by unreleased element separators, their repetitions by
-- unreleased repetition separators, where there is one, and the components of a repetition by unreleased component
-- separators. All of it is said over a segment's own octets.
use Rattle.std.specs.Prelude.{◌≤◌, ⊤, ℕ, ◌+◌, Bool, false, not, ◌&&◌, ◌==◌, List, [], ◌∷◌, length, map, find, slice_index, slice_range, Option, Some, None}
use Rattle.std.specs.List.{enumerate_from, flat_map, list_all}
use Rattle.std.specs.Option.{option_map}
use Rattle.edi_tables.specs.Octets.{Octets}
use Rattle.seg_lexer.specs.Released.{is_released, value_of}
use Rattle.seg_lexer.specs.Stretch.{Stretch, moved, octets_in, places_that}
use Rattle.seg_lexer.specs.declared.service.Separators.{Separators}
use Rattle.seg_lexer.specs.declared.service.Service.{Service}

-- what a segment is cut by, of the service characters
abbrev pub separators_of : Service → Separators
separators_of s =
    record { release = s.release; element = s.element; repetition = s.repetition; component = s.component }

-- place i holds an unreleased separator
abbrev pub is_cut : Option ℕ → Octets → ℕ → ℕ → Bool
is_cut release xs separator i = slice_index xs i == separator && not (is_released release xs 0 i)

-- an octet is a separator, if there is one
abbrev pub is_separator : Option ℕ → ℕ → Bool
is_separator None x = false
is_separator (Some separator) x = x == separator

-- an octet separates the repetitions of an element: it is the repetition separator, if there is one, and the element
-- isn't the tag field, which is element 0
abbrev pub is_repeating : Separators → ℕ → ℕ → Bool
is_repeating sp element x = not (element == 0) && is_separator sp.repetition x

-- place i holds an unreleased octet that separates the repetitions of an element
abbrev pub is_repeat : Separators → Octets → ℕ → ℕ → Bool
is_repeat sp xs element i = is_repeating sp element (slice_index xs i) && not (is_released sp.release xs 0 i)

-- the stretches that a..b falls into when it is cut at these places
unfoldable pub stretches : ℕ → Octets → ℕ → List Stretch
stretches a [] b = record { from = a; to = b } ∷ []
stretches a (c ∷ cs) b = record { from = a; to = c } ∷ stretches (c + 1) cs b

-- a..b cut at the places of it that pass a test
abbrev pub cut_where : (ℕ → Bool) → ℕ → ℕ → List Stretch
cut_where passes a b = stretches a (places_that passes a b) b

-- a..b cut at its unreleased separators
abbrev pub cut : Option ℕ → Octets → ℕ → ℕ → ℕ → List Stretch
cut release xs separator a b = cut_where (is_cut release xs separator) a b

-- a component: the numbers of its element (0 for the tag field), of its repetition (from 1 in each element) and of
-- itself (from 1 in each repetition), and its value
pub record Component : Type 0 where
  pub element : ℕ
  pub repetition : ℕ
  pub component : ℕ
  pub octets : Octets

-- the same with its place
pub record PlacedComponent : Type 0 where
  pub element : ℕ
  pub repetition : ℕ
  pub component : ℕ
  pub place : Stretch
  pub octets : Octets

-- a component without its place
abbrev pub unplaced : PlacedComponent → Component
unplaced f =
    record { element = f.element; repetition = f.repetition; component = f.component; octets = f.octets }

-- the component of a repetition of an element that is this stretch of the segment, by its number
abbrev pub component_in : Option ℕ → Octets → ℕ → ℕ → ℕ × Stretch → PlacedComponent
component_in release xs element repetition p = record {
  element = element;
  repetition = repetition;
  component = p.0;
  place = p.1;
  octets = value_of release (octets_in xs p.1);
}

-- the components of a stretch, which belongs to a repetition of an element, by the number of the first
abbrev pub components_in : Separators → Octets → ℕ → ℕ → ℕ × Stretch → List PlacedComponent
components_in sp xs element repetition p =
    map (component_in sp.release xs element repetition)
    (enumerate_from p.0 (cut sp.release xs sp.component p.1.from p.1.to))

-- all components of a repetition of an element that is this stretch of the segment, by its number
abbrev pub repetition_in : Separators → Octets → ℕ → ℕ × Stretch → List PlacedComponent
repetition_in sp xs element p = components_in sp xs element p.0 (1, p.1)

-- the repetitions of an element that is this stretch of the segment: without a separator it is one
abbrev pub repetitions_in : Separators → Octets → ℕ → Stretch → List Stretch
repetitions_in sp xs element p = cut_where (is_repeat sp xs element) p.from p.to

-- all components of an element that is this stretch of the segment, by its number: those of its repetitions
abbrev pub element_in : Separators → Octets → ℕ × Stretch → List PlacedComponent
element_in sp xs p = flat_map (repetition_in sp xs p.0) (enumerate_from 1 (repetitions_in sp xs p.0 p.1))

-- every component of a segment, empty ones too, in order: the tag field is element 0,
-- repetitions are numbered from 1 in each element, and components from 1 in each repetition
unfoldable pub fields_of : Separators → Octets → List PlacedComponent
fields_of sp xs = flat_map (element_in sp xs) (enumerate_from 0 (cut sp.release xs sp.element 0 (length xs)))

-- the same without places: all that a segment says
abbrev pub components_of : Separators → Octets → List Component
components_of sp xs = map unplaced (fields_of sp xs)

-- a component of a segment that begins at place `start` of the text
abbrev pub placed : ℕ → PlacedComponent → PlacedComponent
placed start f = record f { place = moved start f.place }

-- the components of the segment start..end of a text
abbrev pub fields_at : Service → Octets → ℕ → ℕ → List PlacedComponent
fields_at s text start end = map (placed start) (fields_of (separators_of s) (slice_range text start end))

-- the same without places
abbrev pub components_at : Service → Octets → ℕ → ℕ → List Component
components_at s text start end = components_of (separators_of s) (slice_range text start end)

-- no element of these components is repeated: each is of a first repetition
abbrev pub are_single : List Component → Bool
are_single = list_all (λ e. e.repetition == 1)

-- the elements of these components never fall, and none is below n
abbrev pub IsInOrder : ℕ → List Component → Type 0
IsInOrder n [] = ⊤
IsInOrder n (e ∷ es) = (n ≤ e.element) × IsInOrder e.element es

-- the value of a component of an element's first repetition, where it is written
abbrev pub octets_at : ℕ → ℕ → List Component → Option Octets
octets_at element component es =
    option_map (λ e. e.octets) (find (λ e. e.element == element && e.repetition == 1 && e.component == component) es)

-- the place of a component of an element's first repetition, where it is written
abbrev pub place_at : ℕ → ℕ → List PlacedComponent → Option Stretch
place_at element component fs =
    option_map (λ f. f.place) (find (λ f. f.element == element && f.repetition == 1 && f.component == component) fs)
