use Rattle.std.proofs.Common.{◌≡◌, take}
use Rattle.edi_tables.specs.Placement.{last_placed}
use Rattle.table_walk.proofs.read.last_placed.Given as goal

abbrev pub invariant-loop-member : goal.invariant-loop-member
invariant-loop-member l = l.last ≡ last_placed (take l.member-index l.placed)
