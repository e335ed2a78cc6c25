use Rattle.std.proofs.Common.{◌≡◌, map, take}
use Rattle.collision_check.specs.Listed.{collision_seen}
use Rattle.edi_tables.specs.Collisions.{collisions_of}
use Rattle.dir_compile.proofs.directory.find_collisions.Given as goal

abbrev pub invariant-loop-table : goal.invariant-loop-table
invariant-loop-table l = map (map collision_seen) l.collisions.items ≡ map collisions_of (take l.table-index l.tables)
