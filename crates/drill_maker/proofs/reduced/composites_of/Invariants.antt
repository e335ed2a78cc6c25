use Rattle.std.proofs.Common.{◌≡◌, take, map}
use Rattle.drill_maker.specs.Rows.{composite_given}
use Rattle.drill_maker.proofs.reduced.composites_of.Given as goal

abbrev pub invariant-loop-row : goal.invariant-loop-row
invariant-loop-row l = l.composites.items ≡ map composite_given (take l.row-index l.rows)
