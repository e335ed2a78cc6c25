-- The printed forms of a text's segments and values.
use Rattle.std.specs.Prelude.{ℕ, ◌+◌, ◌-◌, Bool, not, ◌&&◌, nat_le, ◌==◌, List, [], ◌∷◌, ◌++◌, length, Option, Some, None, codes, decimal, if◌then◌else◌}
use Rattle.std.specs.List.{flat_map}
use Rattle.edi_tables.specs.Octets.{Octets}
use Rattle.edi_tables.specs.Filled.{is_filled}
use Rattle.edi_octets.specs.Decimal.{count_line}
use Rattle.edi_octets.specs.Shown.{octet_shown}
use Rattle.seg_lexer.specs.declared.service.Service.{Service}
use Rattle.seg_lexer.specs.Context.{context_of}
use Rattle.seg_lexer.specs.Segments.{segments_of, tail_of}
use Rattle.seg_lexer.specs.Fields.{Component, components_of, separators_of}
use Rattle.seg_lexer.specs.Stretch.{Stretch, octets_in}
use Rattle.seg_lexer.specs.Tag.{tag_of}
use Rattle.listing_printer.specs.declared.text.Detail.{Detail}
use Rattle.listing_printer.specs.declared.text.Detail.TheVariants.{Segments, Values}

-- a segment's tag, or `---` where it has none
abbrev pub tag_shown : Option Octets → Octets
tag_shown None = codes "---"
tag_shown (Some tag) = tag

-- a repetition after the first is told by its number, after a star
abbrev pub repetition_shown : ℕ → Octets
repetition_shown repetition = if repetition == 1 then [] else codes "*" ++ decimal repetition

-- the line of a component: two spaces, its element and repetition, its number and its value
unfoldable pub value_line : Component → Octets
value_line e =
    codes "  " ++ decimal e.element ++ repetition_shown e.repetition ++ codes " " ++ decimal e.component ++ codes " "
    ++ flat_map octet_shown e.octets ++ 10 ∷ []

-- for bodies: an octet stands for itself where it is shown
abbrev pub stands_for_itself : ℕ → Bool
stands_for_itself x = nat_le 32 x && nat_le x 126 && not (x == 92)

-- components that are printed: those that aren't empty, the tag field left out
abbrev pub is_printed : Component → Bool
is_printed e = not (e.element == 0) && is_filled e.octets

-- the line of a component, if it is printed
abbrev pub component_line : Component → Octets
component_line e = if is_printed e then value_line e else []

-- the lines of a segment's values
unfoldable pub value_lines : List Component → Octets
value_lines components = flat_map component_line components

-- all that a segment says
abbrev pub segment_components : Service → Octets → Stretch → List Component
segment_components service text p = components_of (separators_of service) (octets_in text p)

-- the first part of the line of segment k: its number, its first octet, its terminator's place
abbrev pub places_shown : ℕ → Stretch → Octets
places_shown k p = decimal k ++ codes " " ++ decimal p.from ++ codes " " ++ decimal p.to ++ codes " "

-- the last part: its tag
abbrev pub tag_end : Option Octets → Octets
tag_end tag = tag_shown tag ++ 10 ∷ []

-- the line of segment k
abbrev pub segment_line : ℕ → Stretch → Option Octets → Octets
segment_line k p tag = places_shown k p ++ tag_end tag

-- what is printed of segment k: its line, and with `values` its values
unfoldable pub segment_lines : Detail → Service → Octets → ℕ → Stretch → Octets
segment_lines Segments service text k p = segment_line k p (tag_of (segment_components service text p))
segment_lines Values service text k p =
    segment_line k p (tag_of (segment_components service text p)) ++ value_lines (segment_components service text p)

-- what is printed of segments, numbered from k
abbrev pub segments_from : Detail → Service → Octets → ℕ → List Stretch → Octets
segments_from detail service text k [] = []
segments_from detail service text k (p ∷ ps) =
    segment_lines detail service text k p ++ segments_from detail service text (k + 1) ps

-- the line of a tail: its first octet and its length
abbrev pub tail_line : Octets → Option ℕ → Octets
tail_line text None = []
tail_line text (Some start) = codes "tail " ++ decimal start ++ codes " " ++ decimal (length text - start) ++ 10 ∷ []

-- the printed form of a text: how many segments it has, each of them, and its tail
unfoldable pub printed_text : Detail → Octets → Octets
printed_text detail text =
    let service = (context_of text).service in
    count_line (codes "segments") (length (segments_of service text))
    ++ segments_from detail service text 1 (segments_of service text)
    ++ tail_line text (tail_of service text)
