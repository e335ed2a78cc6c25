-- What a segment file was before an item could have a number of repetitions: no field is taken out of an item line, and
-- each item has the number 1. Every file that was accepted then is accepted now, with the same definitions.
use Rattle.std.specs.Prelude.{List, [], ◌∷◌, map, Result, if◌then◌else◌}
use Rattle.std.specs.List.{flat_map}
use Rattle.edi_tables.specs.Octets.{Octets}
use Rattle.edi_tables.specs.declared.element.CompositeDef.{CompositeDef}
use Rattle.edi_tables.specs.declared.segment.SegmentDef.{SegmentDef}
use Rattle.edi_octets.specs.declared.fault.DirFault.{DirFault}
use Rattle.edi_octets.specs.Lines.{Line, lines_of}
use Rattle.edi_octets.specs.Profile.{entries_of, with_earlier}
use Rattle.edi_tables.specs.First.{unless_faulty}
use Rattle.dir_segments.specs.Parts.{is_item_line, fields_past_position}
use Rattle.dir_segments.specs.Segments.{Item, details_of, entry_faults, segment_with}

-- an item line with all fields after its position, and the number 1
abbrev pub unnumbered_at : Line → List Line → Item
unnumbered_at line lines =
    record { line = line; fields = fields_past_position line; reps = 1; details = details_of lines }

-- the items of an entry's lines
abbrev pub unnumbered_of : List Line → List Item
unnumbered_of [] = []
unnumbered_of (line ∷ lines) =
    if is_item_line line then unnumbered_at line lines ∷ unnumbered_of lines else unnumbered_of lines

-- what an entry after these broke
abbrev pub unnumbered_faults : List CompositeDef → List (List Line) → List Line → List DirFault
unnumbered_faults known earlier [] = []
unnumbered_faults known earlier (head ∷ body) = entry_faults known earlier head (unnumbered_of body)

-- the segment of an entry
abbrev pub unnumbered_segment : List Line → SegmentDef
unnumbered_segment [] = record { tag = record { octets = [] }; items = [] }
unnumbered_segment (head ∷ body) = segment_with head (unnumbered_of body)

-- what a segment file gave: a segment for each entry, or its first fault
unfoldable pub unnumbered_in_file : List CompositeDef → Octets → Result (List SegmentDef) DirFault
unnumbered_in_file known file =
    let entries = entries_of (lines_of file) in
    unless_faulty (flat_map (λ p. unnumbered_faults known p.0 p.1) (with_earlier entries))
    (map unnumbered_segment entries)
