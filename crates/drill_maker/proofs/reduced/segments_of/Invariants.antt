use Rattle.std.proofs.Common.{◌≡◌, take, map}
use Rattle.drill_maker.specs.Rows.{segment_given}
use Rattle.drill_maker.proofs.reduced.segments_of.Given as goal

abbrev pub invariant-loop-row : goal.invariant-loop-row
invariant-loop-row l = l.segments.items ≡ map segment_given (take l.row-index l.rows)
