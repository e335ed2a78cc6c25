use Rattle.std.proofs.Common.{◌≡◌, length}
use Rattle.edi_octets.specs.Left.{lines_left}
use Rattle.dir_load.specs.Counted.{counted_left}
use Rattle.dir_load.proofs.counted.CountedLinesIterator.next.Given as goal

abbrev pub invariant-loop-line : goal.invariant-loop-line
invariant-loop-line l = counted_left l.self ≡ counted_left l.fn.self

abbrev pub decreases-loop-line : goal.decreases-loop-line
decreases-loop-line l = length (lines_left l.self.lines)
