use Rattle.std.proofs.Common.{◌≡◌, ◌++◌, length}
use Rattle.element_check.specs.Streams.{components_ahead, surplus_elements}
use Rattle.element_check.proofs.check.check_surplus.Given as goal

-- what is left to be reported comes after what was reported
abbrev pub invariant-loop-found : goal.invariant-loop-found
invariant-loop-found g l =
    l.errors ++ surplus_elements l.told (components_ahead l.rest) ≡ l.initial.errors ++ surplus_elements l.fn.last (components_ahead l.fn.elements)

abbrev pub decreases-loop-found : goal.decreases-loop-found
decreases-loop-found g l = length (components_ahead l.rest)
