use Rattle.std.proofs.Common.{◌≡◌, ◌+◌, ◌≤◌, take, drop, length}
use Rattle.segment_records.specs.Records.{IsModeOf}
use Rattle.kept_text.specs.Again.{AreInner, AreOthers, last_mode, placed_from}
use Rattle.kept_text.proofs.rerun.place_again.Given as goal

-- as many of the records were placed again, and the others are left
abbrev pub invariant-loop-record : goal.invariant-loop-record
invariant-loop-record g l = record {
  within : l.fn.next + length l.again.items ≤ length l.old;
  rest : l.record-iterator ≡ drop (l.fn.next + length l.again.items) l.old;
  again : l.again.items ≡ placed_from l.directory l.before (take (length l.again.items) (drop l.fn.next l.old));
  kept : l.kept ≡ last_mode l.before (take (l.fn.next + length l.again.items) l.old);
  mode : IsModeOf l.directory (l.from + length l.again.items) (last_mode l.before l.again.items);
  inner : AreInner l.old l.fn.next (length l.again.items);
  others : AreOthers l.directory l.before l.old l.fn.next (length l.again.items);
  placed : l.placed ≤ l.initial.placed + length l.again.items;
}
