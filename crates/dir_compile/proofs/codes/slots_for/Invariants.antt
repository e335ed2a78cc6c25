use Rattle.std.proofs.Common.{◌<◌, ◌≤◌, ◌-◌}
use Rattle.dir_compile.proofs.codes.slots_for.Given as goal

-- there are some slots, and they are few
abbrev pub invariant-loop-slots : goal.invariant-loop-slots
invariant-loop-slots l = (0 < l.slots) × (l.slots ≤ 131072)

abbrev pub decreases-loop-slots : goal.decreases-loop-slots
decreases-loop-slots l = 131072 - l.slots
