use Rattle.std.proofs.Common.{◌≡◌, map, length, true}
use Rattle.std.specs.List.{flat_map, range_with_len}
use Rattle.collision_check.specs.Listed.{collision_seen, collisions_at}
use Rattle.collision_check.specs.Marks.{IsClear, IsFresh}
use Rattle.collision_check.proofs.list.list_collisions.Given as goal

abbrev pub invariant-loop-entry : goal.invariant-loop-entry
invariant-loop-entry l = record {
  made : map collision_seen l.collisions.items ≡ flat_map (collisions_at l.table) (range_with_len 0 l.entry);
  fresh : IsFresh l.entry l.marks;
  long : length l.marks ≡ length l.table;
  clear : l.is_clear ≡ true → IsClear l.table l.entry;
}
