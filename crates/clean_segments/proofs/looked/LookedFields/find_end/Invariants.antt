use Rattle.std.proofs.Common.{◌-◌, ◌≤◌, length}
use Rattle.clean_segments.specs.Kind.{AreInner}
use Rattle.clean_segments.proofs.looked.LookedFields.find_end.Given as goal

-- all octets so far are parts of the value
abbrev pub invariant-loop-at : goal.invariant-loop-at
invariant-loop-at l = record {
  low : l.fn.from ≤ l.at;
  high : l.at ≤ length l.self.octets.now;
  inner : AreInner l.self.kinds.now.separators l.self.kinds.now.level l.self.octets.now l.fn.from l.at;
}

abbrev pub decreases-loop-at : goal.decreases-loop-at
decreases-loop-at l = length l.self.octets.now - l.at
