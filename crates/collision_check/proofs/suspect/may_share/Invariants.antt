use Rattle.collision_check.proofs.Noting.{IsWalked}
use Rattle.edi_tables.proofs.PlaceLaws.{levels_left}
use Rattle.collision_check.proofs.suspect.may_share.Given as goal

abbrev pub invariant-loop-sibling : goal.invariant-loop-sibling
invariant-loop-sibling l = IsWalked l.table l.ranks l.entry l.at l.bound l.seen

abbrev pub decreases-loop-sibling : goal.decreases-loop-sibling
decreases-loop-sibling l = levels_left l.table l.at
