-- The segment that an item of the walk over records is.
use Rattle.std.specs.Option.{option_copied}
use Rattle.segment_records.specs.declared.walked_segment.WalkedSegment.{WalkedSegment}
use Rattle.segment_records.specs.WalkedSegments.{SeenSegment}

-- the segment that an item of the walk is, with its record and the next one, if there is one
abbrev pub seen_of : WalkedSegment → SeenSegment
seen_of s = record {
  number = s.number;
  from = s.from;
  before = s.before.now;
  kept = s.record.now;
  next = option_copied s.next;
}
