use Rattle.std.proofs.Common.{◌≡◌, ◌++◌}
use Rattle.std.specs.Prelude.{All}
use Rattle.std.specs.List.{filter_map, flat_map}
use Rattle.seg_lexer.specs.Context.{context_of}
use Rattle.segment_records.specs.Line.{lines_seen}
use Rattle.segment_records.specs.WalkedSegments.{Follows}
use Rattle.segment_records.specs.Told.{KeepsValues, head_when}
use Rattle.edi_engine.proofs.errors.walk_notable.Given as goal

-- the heads and the errors of the notable segments to come are left to be put
abbrev pub invariant-loop-seen : goal.invariant-loop-seen
invariant-loop-seen l = record {
  heads : l.heads.items ++ filter_map (head_when (context_of l.kept.text).service l.kept.text) l.seen-iterator.0
      ≡ filter_map (head_when (context_of l.kept.text).service l.kept.text) l.initial.seen-iterator.0;
  lines : l.lines.items ++ flat_map (lines_seen l.directory) l.seen-iterator.0
      ≡ flat_map (lines_seen l.directory) l.initial.seen-iterator.0;
  values : All (KeepsValues (context_of l.kept.text).service l.kept.text) l.seen-iterator.0;
  follow : All (Follows l.directory) l.seen-iterator.0;
}
