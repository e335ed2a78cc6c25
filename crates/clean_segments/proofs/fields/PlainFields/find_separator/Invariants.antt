use Rattle.std.proofs.Common.{◌-◌, ◌≤◌, length}
use Rattle.memchr.specs.Find.{Nowhere}
use Rattle.clean_segments.specs.Start.{IsSeparator}
use Rattle.clean_segments.proofs.fields.PlainFields.find_separator.Given as goal

-- none was found so far
abbrev pub invariant-loop-at : goal.invariant-loop-at
invariant-loop-at l = record {
  low : l.fn.from ≤ l.at;
  high : l.at ≤ length l.self.octets.now;
  none : Nowhere (IsSeparator l.self.separators l.self.octets.now) l.fn.from l.at;
}

abbrev pub decreases-loop-at : goal.decreases-loop-at
decreases-loop-at l = length l.self.octets.now - l.at
