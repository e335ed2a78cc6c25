-- The tag of a segment.
use Rattle.std.specs.Prelude.{ℕ, ◌≡◌, ◌≢◌, false, not, ◌&&◌, ◌==◌, List, [], ◌∷◌, map, filter, length, Option, Some, None, if◌then◌else◌}
use Rattle.std.specs.List.{list_all}
use Rattle.edi_tables.specs.Octets.{Octets}
use Rattle.edi_tables.specs.Tag.{is_tag_of}
use Rattle.seg_lexer.specs.Fields.{Component, PlacedComponent}
use Rattle.seg_lexer.specs.Released.{is_release}
use Rattle.seg_lexer.specs.declared.service.Separators.{Separators}

-- the values of the tag field, which is element 0
abbrev pub tag_field : List Component → List Octets
tag_field components = map (λ e. e.octets) (filter (λ e. e.element == 0) components)

-- the tag that these values of a tag field give: the first one, if it is a tag and every further one is empty
abbrev pub tag_in : List Octets → Option Octets
tag_in [] = None
tag_in (first ∷ further) =
    if is_tag_of first && list_all (λ octets. length octets == 0) further then Some first else None

-- the tag of a segment, or none
unfoldable pub tag_of : List Component → Option Octets
tag_of components = tag_in (tag_field components)

-- the components after the tag field: those of the elements
abbrev pub past_tag_field : List PlacedComponent → List PlacedComponent
past_tag_field fs = filter (λ f. not (f.element == 0)) fs

-- for bodies: an octet neither separates components or elements nor releases
pub record IsBare (sp : Separators) (x : ℕ) : Type 0 where
  pub element : x ≢ sp.element
  pub component : x ≢ sp.component
  pub release : is_release sp.release x ≡ false
