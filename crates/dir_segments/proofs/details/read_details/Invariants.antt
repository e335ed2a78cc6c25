use Rattle.edi_octets.specs.Left.{body_left}
use Rattle.dir_segments.specs.Segments.{details_of}
use Rattle.dir_segments.proofs.ItemLemmas.{AreDetails}
use Rattle.dir_segments.proofs.details.read_details.Given as goal

-- the detail lines so far
abbrev pub invariant-loop-line : goal.invariant-loop-line
invariant-loop-line l =
    AreDetails l.below_composite (details_of (body_left l.fn.behind)) (details_of (body_left l.line-iterator)) l.parts.items
