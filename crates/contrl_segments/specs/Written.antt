-- How segments are written (ISO 9735, syntax version 3): with the default service characters `:` `+` `?` `'`,
-- without service string advice and without line ends.
use Rattle.std.specs.Prelude.{ℕ, Bool, ◌||◌, ◌==◌, List, [], ◌∷◌, ◌++◌, length, if◌then◌else◌}
use Rattle.std.specs.List.{flat_map, list_all}
use Rattle.edi_tables.specs.Octets.{Octets}

-- an element: the values of its components
abbrev pub Element : Type 0
Element = List Octets

-- a segment: its tag, and its elements
pub record Segment : Type 0 where
  pub tag : Octets
  pub elements : List Element

-- an element of one component
abbrev pub alone : Octets → Element
alone value = value ∷ []

-- the terminator `'`, the element separator `+`, the component separator `:` and the release character `?`
abbrev pub is_service : ℕ → Bool
is_service x = x == 39 || x == 43 || x == 58 || x == 63

-- an octet of a value as it is written: after a release character where it is one of these
abbrev pub octet_text : ℕ → Octets
octet_text x = if is_service x then 63 ∷ x ∷ [] else x ∷ []

-- a value as it is written
abbrev pub value_text : Octets → Octets
value_text value = flat_map octet_text value

-- a value without octets
abbrev pub is_empty_value : Octets → Bool
is_empty_value value = length value == 0

-- an element whose values are all empty
abbrev pub is_empty_element : Element → Bool
is_empty_element values = list_all is_empty_value values

-- without the empty items after the last that isn't empty
abbrev pub trimmed : {X : Type 0} → (X → Bool) → List X → List X
trimmed is_empty [] = []
trimmed is_empty (x ∷ xs) = if list_all is_empty (x ∷ xs) then [] else x ∷ trimmed is_empty xs

-- values with a component separator before each but the first
abbrev pub values_text : List Octets → Octets
values_text [] = []
values_text (v ∷ vs) = value_text v ++ flat_map (λ w. 58 ∷ value_text w) vs

-- an element as it is written: empty components at its end are left out
unfoldable pub element_text : Element → Octets
element_text values = values_text (trimmed is_empty_value values)

-- elements with a separator before each
abbrev pub elements_text : List Element → Octets
elements_text elements = flat_map (λ e. 43 ∷ element_text e) elements

-- a segment as it is written: its tag, its elements, and the terminator; empty elements at its end are left out
unfoldable pub segment_text : Segment → Octets
segment_text s = s.tag ++ elements_text (trimmed is_empty_element s.elements) ++ 39 ∷ []

-- segments as they are written, one after another
abbrev pub contrl_text : List Segment → Octets
contrl_text segments = flat_map segment_text segments
