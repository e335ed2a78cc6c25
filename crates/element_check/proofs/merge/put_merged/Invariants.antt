use Rattle.std.proofs.Common.{◌≡◌, ◌+◌, ◌-◌, ◌≤◌, ◌++◌, length, drop}
use Rattle.element_check.specs.Merging.{merged}
use Rattle.element_check.proofs.merge.put_merged.Given as goal

-- what was put, and then what is left of both lists, merged, is all
abbrev pub invariant-loop-i : goal.invariant-loop-i
invariant-loop-i l =
    (l.i ≤ length l.known) × (l.j ≤ length l.fresh) × (l.errors ++ merged (drop l.i l.known) (drop l.j l.fresh) ≡ l.initial.errors ++ merged l.known l.fresh)

abbrev pub decreases-loop-i : goal.decreases-loop-i
decreases-loop-i l = (length l.known - l.i) + (length l.fresh - l.j)
