use Rattle.std.proofs.Common.{◌≡◌}
use Rattle.std.specs.Prelude.{filter}
use Rattle.std.specs.List.{range_with_len}
use Rattle.edi_tables.specs.Collisions.{is_in_front}
use Rattle.collision_check.proofs.front.front.Given as goal

abbrev pub invariant-loop-place : goal.invariant-loop-place
invariant-loop-place l = l.front.items ≡ filter (is_in_front l.table l.entry) (range_with_len 0 l.place)
