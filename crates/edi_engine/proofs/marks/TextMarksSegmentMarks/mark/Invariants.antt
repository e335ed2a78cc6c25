use Rattle.std.proofs.Common.{◌≡◌, ◌-◌, ◌≤◌}
use Rattle.edi_engine.proofs.marks.TextMarksSegmentMarks.mark.Given as goal

-- the segment that is found next comes no later than the one that is asked for, in the same octets
abbrev pub invariant-loop-self : goal.invariant-loop-self
invariant-loop-self l = record {
  low : l.self.place ≤ l.i;
  same : l.self.octets.now ≡ l.fn.self.octets.now;
}

abbrev pub decreases-loop-self : goal.decreases-loop-self
decreases-loop-self l = l.i - l.self.place

abbrev pub ghosts-next_mark : goal.ghosts-next_mark
ghosts-next_mark a = record { name = a.blank.name; parts = a.blank.parts }
