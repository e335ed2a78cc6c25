use Rattle.std.proofs.Common.{length}
use Rattle.edi_octets.specs.Left.{body_left}
use Rattle.dir_segments.specs.Segments.{item_faults, item_position, item_of, items_of}
use Rattle.dir_segments.proofs.FrontLemmas.{IsRead}
use Rattle.dir_segments.proofs.segments.read_items.Given as goal

-- the items so far
abbrev pub invariant-loop-line : goal.invariant-loop-line
invariant-loop-line l =
    IsRead (item_faults l.fn.known.composites.now) item_position item_of (items_of (body_left l.fn.entry.body)) (items_of (body_left l.lines)) l.before l.items.items

abbrev pub decreases-loop-line : goal.decreases-loop-line
decreases-loop-line l = length (body_left l.lines)
