use Rattle.std.proofs.Common.{◌≡◌, length}
use Rattle.edi_octets.specs.Left.{lines_left, entries_left}
use Rattle.edi_octets.proofs.entries.EntriesIterator.next.Given as goal

abbrev pub invariant-loop-head : goal.invariant-loop-head
invariant-loop-head l = entries_left l.self ≡ entries_left l.fn.self

abbrev pub decreases-loop-head : goal.decreases-loop-head
decreases-loop-head l = length (lines_left l.self.lines)
