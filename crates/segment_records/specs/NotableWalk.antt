-- For bodies: what is seen of a walk over the notable segments.
use Rattle.std.specs.Prelude.{◌≡◌, ◌≤◌, ℕ, List, length, drop, filter, sum_by, take}
use Rattle.segment_records.specs.Notable.{is_notable, marks_of}
use Rattle.segment_records.specs.WalkedSegments.{AreStretches, SeenSegment, seen_from}
use Rattle.segment_records.specs.declared.notable.NotableSegments.TheInside.{Inside}

-- the notable segments to come, and the number of all segments
abbrev pub notable_left : Inside → List SeenSegment × ℕ
notable_left s = (
  filter is_notable (drop s.done (seen_from 1 s.from s.before.now s.records.now)),
  length s.records.now,
)

-- the records are of stretches, those that are marked are counted as far as the walk is done, and the way to the others
-- is no further
pub record IsNotableWalk (s : Inside) : Type 0 where
  pub within : s.done ≤ length s.records.now
  pub marked : s.marked ≡ sum_by marks_of (take s.done s.records.now)
  pub stretches : AreStretches 1 s.from s.records.now
  pub way : s.way.0 ≡ s.records.now
  pub behind : s.way.1 ≤ s.marked
