use Rattle.std.proofs.Common.{◌≡◌, take, map}
use Rattle.drill_maker.proofs.reduced.values_of.Given as goal

abbrev pub invariant-loop-value : goal.invariant-loop-value
invariant-loop-value l = l.copies.items ≡ map (λ value. value.now) (take l.value-index l.values)
