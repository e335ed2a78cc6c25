-- What a composite file is.
use Rattle.std.specs.Prelude.{List, [], ◌∷◌, ◌++◌, length, filter, map, Result}
use Rattle.std.specs.List.{filter_map, flat_map}
use Rattle.edi_tables.specs.Octets.{Octets}
use Rattle.edi_tables.specs.declared.element.PartDef.{PartDef}
use Rattle.edi_tables.specs.declared.element.CompositeDef.{CompositeDef}
use Rattle.edi_octets.specs.declared.fault.DirFault.{DirFault}
use Rattle.edi_octets.specs.Lines.{Line, lines_of}
use Rattle.edi_tables.specs.Forms.{is_composite_code}
use Rattle.edi_octets.specs.Profile.{position_of, entries_of, with_earlier}
use Rattle.edi_tables.specs.First.{unless_faulty}
use Rattle.edi_octets.specs.Head.{head_faults, code_of}
use Rattle.dir_segments.specs.Parts.{is_item_line, fields_past_position, last_of, part_in, part_faults, count_faults}

-- the part lines of an entry's lines: those indented by at most 4; all others are text
abbrev pub part_lines : List Line → List Line
part_lines body = filter is_item_line body

-- what the part lines of an entry break, in order
abbrev pub parts_faults : List Line → List DirFault
parts_faults body =
    flat_map (λ p. part_faults (last_of (map position_of p.0)) p.1) (with_earlier (part_lines body))

-- an entry after these: its head, its part lines in order, its end, where it has 1 to 99 parts
abbrev pub composite_faults : List (List Line) → List Line → List DirFault
composite_faults earlier [] = []
composite_faults earlier (head ∷ body) =
    head_faults is_composite_code earlier head ++ (parts_faults body ++ count_faults head (length (part_lines body)))

-- the parts of an entry's lines
abbrev pub parts_in : List Line → List PartDef
parts_in body = filter_map (λ line. part_in (fields_past_position line)) (part_lines body)

-- the composite of an entry
abbrev pub composite_of : List Line → CompositeDef
composite_of [] = record { code = code_of []; parts = [] }
composite_of (head ∷ body) = record { code = code_of (head ∷ body); parts = parts_in body }

-- what a composite file gives: a composite for each entry, or its first fault
unfoldable pub composites_in : Octets → Result (List CompositeDef) DirFault
composites_in file =
    let entries = entries_of (lines_of file) in
    unless_faulty (flat_map (λ p. composite_faults p.0 p.1) (with_earlier entries)) (map composite_of entries)
