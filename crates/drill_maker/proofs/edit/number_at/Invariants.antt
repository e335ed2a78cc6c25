use Rattle.std.proofs.Common.{◌≡◌, ◌<◌}
use Rattle.drill_maker.specs.Edit.{number_at}
use Rattle.drill_maker.proofs.edit.number_at.Given as goal

abbrev pub invariant-loop-step : goal.invariant-loop-step
invariant-loop-step l = (l.number ≡ number_at l.x l.step) × (l.number < 2147483648)
