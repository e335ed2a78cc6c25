-- What is seen of a component, and of the components that are left of a segment.
use Rattle.std.specs.Prelude.{List, map, slice_range}
use Rattle.edi_octets.specs.declared.octets.Octets.{Ghosts}
use Rattle.seg_lexer.specs.Fields.{Component, PlacedComponent, placed, unplaced}
use Rattle.seg_lexer.specs.Place.{rest_of}
use Rattle.seg_lexer.specs.Value.{octets_of, span_of}
use Rattle.seg_lexer.specs.declared.components.Component.{Component as ReadComponent}
use Rattle.seg_lexer.specs.declared.components.Fields.{Fields}

-- a component, with its place in the text
abbrev pub placed_in : {O : Type 0} {o : Ghosts O} → ReadComponent O o → PlacedComponent
placed_in p = record {
  element = p.element;
  repetition = p.repetition;
  component = p.component;
  place = span_of p.value;
  octets = octets_of p.value;
}

-- the components that are left, in order
unfoldable pub fields_left : {O : Type 0} {o : Ghosts O} → Fields O o → List PlacedComponent
fields_left {o = o} f =
    map (placed f.start) (rest_of f.separators (slice_range (o.octets f.text.now) f.start f.end) f.place)

-- the same without their places
abbrev pub components_left : {O : Type 0} {o : Ghosts O} → Fields O o → List Component
components_left f = map unplaced (fields_left f)
