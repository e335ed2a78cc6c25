use Rattle.std.proofs.Common.{◌≡◌, ◌++◌, None}
use Rattle.std.specs.Prelude.{All}
use Rattle.segment_records.specs.WalkedSegments.{LiesIn}
use Rattle.segment_records.specs.Spans.{IsNumbered, group_spans, heads_from}
use Rattle.edi_engine.proofs.group_heads.groups_of.Given as goal

-- the groups of the notable segments to come are left to be put, and the one that is open
abbrev pub invariant-loop-seen : goal.invariant-loop-seen
invariant-loop-seen l = record {
  left : l.groups.items ++ heads_from (group_spans l.service l.text) l.count l.current l.seen-iterator.0
      ≡ heads_from (group_spans l.service l.text) l.count None l.initial.seen-iterator.0;
  inside : All (LiesIn l.text) l.seen-iterator.0;
  numbered : All IsNumbered l.seen-iterator.0;
}
