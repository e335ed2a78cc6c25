use Rattle.std.proofs.Common.{◌≡◌, ◌+◌, ◌≤◌, ◌++◌, None, length}
use Rattle.std.specs.Prelude.{All, filter}
use Rattle.std.specs.Option.{ForSome, option_copied, option_map}
use Rattle.segment_records.specs.WalkedSegments.{LiesIn}
use Rattle.segment_records.specs.Spans.{IsNumbered, grouped, heads_from, message_spans}
use Rattle.contrl_writer.specs.Needed.{is_asked}
use Rattle.edi_engine.proofs.Asked.{LiesOpened, head_opened}
use Rattle.edi_engine.proofs.message_heads.messages_of.Given as goal

-- the messages of the notable segments to come are left to be put, and the one that is open
abbrev pub invariant-loop-seen : goal.invariant-loop-seen
invariant-loop-seen l = record {
  left : l.messages.items ++ filter (is_asked (option_copied l.errors))
      (heads_from (message_spans l.service l.text) l.count (option_map (head_opened l.service l.text) l.current) (grouped l.begun l.group l.seen-iterator.0))
      ≡ filter (is_asked (option_copied l.errors)) (heads_from (message_spans l.service l.text) l.count None (grouped 0 None l.initial.seen-iterator.0));
  inside : All (LiesIn l.text) l.seen-iterator.0;
  numbered : All IsNumbered l.seen-iterator.0;
  few : l.begun + length l.seen-iterator.0 ≤ 4194304;
  open_inside : ForSome l.current (LiesOpened l.service l.text);
}
