use Rattle.std.proofs.Common.{◌≡◌, map}
use Rattle.std.specs.List.{range_with_len}
use Rattle.std.specs.Str.{bytes_eq}
use Rattle.std.specs.HashMap.{get}
use Rattle.collision_check.specs.Marks.{number_at}
use Rattle.collision_check.proofs.Marking.{KnowsFirst}
use Rattle.collision_check.proofs.numbers.numbers.Given as goal

abbrev pub invariant-loop-i : goal.invariant-loop-i
invariant-loop-i l = record {
  made : l.numbers.items ≡ map (number_at l.nodes) (range_with_len 0 l.i);
  known : KnowsFirst l.nodes l.i (get bytes_eq l.first);
}
