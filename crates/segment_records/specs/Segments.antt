-- A text as its segments: the stretch of each, what it says, and its tag.
use Rattle.std.specs.Prelude.{ℕ, List, [], map, Option, unwrap_or}
use Rattle.std.specs.List.{zip}
use Rattle.std.specs.Option.{option_map}
use Rattle.edi_tables.specs.Octets.{Octets}
use Rattle.edi_tables.specs.declared.tag.Tag.{Tag}
use Rattle.seg_lexer.specs.Fields.{Component, components_at, octets_at}
use Rattle.seg_lexer.specs.Segments.{boundaries_of, ends_of}
use Rattle.seg_lexer.specs.Breaks.{lead}
use Rattle.seg_lexer.specs.Context.{context_of}
use Rattle.seg_lexer.specs.Tag.{tag_of}
use Rattle.seg_lexer.specs.declared.service.Service.{Service}

-- a segment as it is read: the boundary before it, its first octet, the place of its terminator, its components, and
-- its tag if it has one
pub record Segment : Type 0 where
  pub from : ℕ
  pub start : ℕ
  pub end : ℕ
  pub components : List Component
  pub tag : Option Tag

-- the tag of these components
abbrev pub tag_read : List Component → Option Tag
tag_read components = option_map (λ octets. record { octets = octets }) (tag_of components)

-- the segment start..end after the boundary `from`
abbrev pub segment_read : Service → Octets → ℕ → ℕ → ℕ → Segment
segment_read s text from start end =
    let components = components_at s text start end in
    record { from = from; start = start; end = end; components = components; tag = tag_read components }

-- the segment between a boundary and the next end, without the line ends in front
abbrev pub segment_between : Service → Octets → ℕ × ℕ → Segment
segment_between s text p = segment_read s text p.0 (lead text p.0 p.1) p.1

-- every segment of a text, in order, by these service characters
unfoldable pub segments_by : Service → Octets → List Segment
segments_by s text = map (segment_between s text) (zip (boundaries_of s text) (ends_of s text))

-- every segment of a text, in order, by the service characters of its context
unfoldable pub segments_of_text : Octets → List Segment
segments_of_text text = segments_by (context_of text).service text

-- the tags of segments
abbrev pub tags_in : List Segment → List (Option Tag)
tags_in segments = map (λ segment. segment.tag) segments

-- the value of a component of an element's first repetition; one that isn't written is empty
abbrev pub value_in : List Component → ℕ → ℕ → Octets
value_in components element component = unwrap_or (octets_at element component components) []
