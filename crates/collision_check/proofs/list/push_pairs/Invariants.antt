use Rattle.std.proofs.Common.{◌≡◌, ◌++◌, map, take}
use Rattle.collision_check.specs.Listed.{collision_seen, with_followers}
use Rattle.collision_check.proofs.list.push_pairs.Given as goal

abbrev pub invariant-loop-pair : goal.invariant-loop-pair
invariant-loop-pair l =
    map collision_seen l.collisions.items ≡ map collision_seen l.fn.collisions.items ++ map (λ pair. with_followers l.table l.front pair.0 pair.1) (take l.pair-index l.pairs)
