use Rattle.std.proofs.Common.{◌-◌, ◌≤◌, length}
use Rattle.clean_segments.specs.Clean.{AreClean}
use Rattle.segment_records.specs.Known.{AreKnown}
use Rattle.kept_text.proofs.StretchRead.{AreRead}
use Rattle.kept_text.proofs.passing.read_batch.Given as goal

-- the segments so far were read, and there is room for one more
abbrev pub invariant-loop-start : goal.invariant-loop-start
invariant-loop-start g l = record {
  read : AreRead l.directory l.context l.octets l.before l.from l.records.items l.to;
  room : length l.records.items ≤ 128;
  clean : AreClean l.directory l.context l.octets l.clean;
  known : AreKnown l.directory l.known;
}

abbrev pub decreases-loop-start : goal.decreases-loop-start
decreases-loop-start g l = length l.octets - l.to
