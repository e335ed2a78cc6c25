use Rattle.std.proofs.Common.{◌≡◌, ◌≤◌, filter, length, map}
use Rattle.std.specs.List.{range_with_len}
use Rattle.edi_tables.specs.Walk.{is_group_at}
use Rattle.segment_records.specs.Places.{group_number}
use Rattle.edi_engine.proofs.places.groups_until.Given as goal

abbrev pub invariant-loop-i : goal.invariant-loop-i
invariant-loop-i l = record {
  numbers : l.numbers.items ≡ map (group_number l.table) (range_with_len 0 l.i);
  count : l.count ≡ length (filter (is_group_at l.table) (range_with_len 0 l.i));
  few : l.count ≤ l.i;
}
