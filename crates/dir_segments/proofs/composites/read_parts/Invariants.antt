use Rattle.edi_octets.specs.Left.{body_left}
use Rattle.dir_segments.specs.Composites.{part_lines}
use Rattle.edi_octets.specs.Profile.{position_of}
use Rattle.dir_segments.specs.Parts.{part_faults, part_in, fields_past_position}
use Rattle.dir_segments.proofs.FrontLemmas.{IsRead}
use Rattle.dir_segments.proofs.composites.read_parts.Given as goal

-- the part lines so far
abbrev pub invariant-loop-line : goal.invariant-loop-line
invariant-loop-line l =
    IsRead part_faults position_of (λ line. part_in (fields_past_position line)) (part_lines (body_left l.fn.entry.body)) (part_lines (body_left l.line-iterator)) l.before l.parts.items
