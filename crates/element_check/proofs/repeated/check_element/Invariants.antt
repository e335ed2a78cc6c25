use Rattle.std.proofs.Common.{length}
use Rattle.element_check.specs.Local.{values_in}
use Rattle.element_check.specs.Streams.{after_run, components_ahead, demanded, item_errors}
use Rattle.element_check.proofs.RepeatedLemmas.{IsGathered}
use Rattle.element_check.proofs.repeated.check_element.Given as goal

-- the errors of the repetitions so far
abbrev pub invariant-loop-rest : goal.invariant-loop-rest
invariant-loop-rest g l =
    let start = after_run l.element 0 (components_ahead l.fn.rest) in
    IsGathered l.rules l.item l.element start (item_errors l.rules l.element (demanded l.missing l.item) (values_in start l.element 1)) l.all l.excess (components_ahead l.rest)

abbrev pub decreases-loop-rest : goal.decreases-loop-rest
decreases-loop-rest g l = length (components_ahead l.rest)
