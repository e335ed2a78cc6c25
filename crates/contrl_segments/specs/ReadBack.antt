-- What is written is read back as it was.
use Rattle.std.specs.Prelude.{ℕ, ◌≡◌, List, [], ◌∷◌, map, None}
use Rattle.std.specs.List.{enumerate_from, flat_map}
use Rattle.edi_tables.specs.Octets.{Octets}
use Rattle.seg_lexer.specs.Fields.{Component, components_of, separators_of}
use Rattle.seg_lexer.specs.Segments.{tail_of}
use Rattle.seg_lexer.specs.Service.{default_service, service_of}
use Rattle.seg_lexer.specs.Whole.{contents_of}
use Rattle.contrl_segments.specs.Written.{Element, Segment, alone, is_empty_element, is_empty_value, trimmed}

-- the values of an element that is written: an element of which nothing is written has one component, which is empty
abbrev pub values_read : Element → Element
values_read [] = [] ∷ []
values_read (v ∷ vs) = v ∷ vs

-- a component of an element as it is read back, by its number and its value
abbrev pub component_read : ℕ → ℕ × Octets → Component
component_read element p = record { element = element; repetition = 1; component = p.0; octets = p.1 }

-- the components of an element as they are read back, by its number and its values
abbrev pub element_read : ℕ × Element → List Component
element_read p = map (component_read p.0) (enumerate_from 1 (values_read (trimmed is_empty_value p.1)))

-- the components of a segment that is written: its tag is element 0, and components are numbered from 1
abbrev pub components_read : Segment → List Component
components_read s = flat_map element_read (enumerate_from 0 (alone s.tag ∷ trimmed is_empty_element s.elements))

-- octets are read as these segments: by the default service characters, with these components segment by segment, and
-- without a tail
pub record IsReadAs (segments : List Segment) (octets : Octets) : Type 0 where
  pub service : service_of octets ≡ default_service
  pub components : map (components_of (separators_of default_service)) (contents_of default_service octets)
      ≡ map components_read segments
  pub tail : tail_of default_service octets ≡ None
