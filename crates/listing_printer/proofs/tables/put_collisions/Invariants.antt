use Rattle.std.proofs.Common.{◌≡◌, ◌++◌, take, map}
use Rattle.std.specs.List.{flat_map}
use Rattle.collision_check.specs.Listed.{collision_seen}
use Rattle.listing_printer.specs.Tables.{collision_line}
use Rattle.listing_printer.proofs.tables.put_collisions.Given as goal

abbrev pub invariant-loop-collision : goal.invariant-loop-collision
invariant-loop-collision l = l.out ≡ l.fn.out ++ flat_map collision_line (map collision_seen (take l.collision-index l.collisions))
