use Rattle.std.proofs.Common.{◌≡◌, ◌+◌, ◌-◌, ◌++◌, ◌≤◌, drop, length}
use Rattle.seg_lexer.specs.Segments.{IsBoundary}
use Rattle.clean_segments.specs.Clean.{AreClean}
use Rattle.segment_records.specs.Known.{AreKnown}
use Rattle.segment_records.specs.Records.{IsModeOf, records_from}
use Rattle.kept_text.specs.Again.{last_mode}
use Rattle.segment_records.proofs.Rests.{rest_count}
use Rattle.kept_text.proofs.read.read_records.Given as goal

-- the records of the octets left come after those that were read, and after the mode that the last of them leaves
abbrev pub invariant-loop-start : goal.invariant-loop-start
invariant-loop-start g l = record {
  boundary : IsBoundary l.context.service (g.O.Octets.octets l.text) l.from;
  mode : IsModeOf l.directory l.from (last_mode l.fn.before l.records);
  records : l.records ++ records_from l.directory l.context (last_mode l.fn.before l.records) (drop l.from (g.O.Octets.octets l.text))
      ≡ records_from l.directory l.context l.fn.before (drop l.fn.from (g.O.Octets.octets l.text));
  few : length l.records ≤ l.from;
  clean : AreClean l.directory l.context (g.O.Octets.octets l.text) l.clean;
  known : AreKnown l.directory l.known;
  lexed : l.lexed + rest_count l.context.service (g.O.Octets.octets l.text) l.from
      ≤ l.initial.lexed + rest_count l.context.service (g.O.Octets.octets l.text) l.fn.from;
  placed : l.placed + rest_count l.context.service (g.O.Octets.octets l.text) l.from
      ≤ l.initial.placed + rest_count l.context.service (g.O.Octets.octets l.text) l.fn.from;
}

abbrev pub decreases-loop-start : goal.decreases-loop-start
decreases-loop-start g l = length (g.O.Octets.octets l.text) - l.from
