use Rattle.edi_octets.specs.Left.{entries_left}
use Rattle.edi_octets.specs.Lines.{lines_of}
use Rattle.edi_octets.specs.Profile.{entries_of}
use Rattle.dir_segments.specs.Segments.{segment_faults, segment_of}
use Rattle.dir_segments.proofs.FrontLemmas.{AreRead}
use Rattle.dir_segments.proofs.segments.read_segments.Given as goal

-- the entries so far
abbrev pub invariant-loop-entry : goal.invariant-loop-entry
invariant-loop-entry l =
    AreRead (segment_faults l.fn.known) segment_of (entries_of (lines_of l.fn.file)) (entries_left l.entry-iterator) l.seen l.found.items
