use Rattle.std.proofs.Common.{◌≡◌, take, map}
use Rattle.drill_maker.specs.Rows.{list_given}
use Rattle.drill_maker.proofs.reduced.lists_of.Given as goal

abbrev pub invariant-loop-row : goal.invariant-loop-row
invariant-loop-row l = l.lists.items ≡ map list_given (take l.row-index l.rows)
