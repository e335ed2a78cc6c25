-- For bodies: what is seen of a walk over records.
use Rattle.std.specs.Prelude.{◌≡◌, List, []}
use Rattle.std.specs.Option.{ForNone, option_copied}
use Rattle.segment_records.specs.WalkedSegments.{AreStretches, SeenSegment, left_of, seen_from}
use Rattle.segment_records.specs.declared.walked_segment.Segments.TheInside.{Inside}

-- the segments to come
abbrev pub segments_left : Inside → List SeenSegment
segments_left s = seen_from s.number s.from s.before.now (left_of (option_copied s.current) s.rest)

-- nothing comes after no record, and the stretches to come are in the text
pub record IsWalk (s : Inside) : Type 0 where
  pub none : ForNone s.current (s.rest ≡ [])
  pub stretches : AreStretches s.number s.from (left_of (option_copied s.current) s.rest)
