use Rattle.std.proofs.Common.{◌≡◌, ◌≤◌, ◌++◌, length, take, drop}
use Rattle.element_check.specs.Merging.{merged}
use Rattle.element_check.proofs.merge.first_new.Given as goal

-- the fresh errors that were passed are known, and are before the place that was reached
abbrev pub invariant-loop-passed : goal.invariant-loop-passed
invariant-loop-passed l =
    (l.at ≤ length l.known) × (merged l.known l.fresh ≡ take l.at l.known ++ merged (drop l.at l.known) (drop l.passed l.fresh))
