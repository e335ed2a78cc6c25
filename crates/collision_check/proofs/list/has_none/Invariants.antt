use Rattle.std.proofs.Common.{◌≡◌, ℕ, ◌<◌, [], true}
use Rattle.collision_check.specs.Listed.{collisions_at}
use Rattle.collision_check.specs.Marks.{IsClear}
use Rattle.collision_check.proofs.list.has_none.Given as goal

abbrev pub invariant-loop-place : goal.invariant-loop-place
invariant-loop-place l = record {
  none : (k : ℕ) → k < l.place → collisions_at l.table k ≡ [];
  clear : l.is_clear ≡ true → IsClear l.table l.place;
}
