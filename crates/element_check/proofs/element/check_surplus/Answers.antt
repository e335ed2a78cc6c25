use Rattle.element_check.proofs.ErrorsLemmas.{on_err}
use Rattle.element_check.proofs.StreamLemmas.{surplus_components-full}
use Rattle.element_check.proofs.element.check_surplus.Goals as goal

pub returns-in_err-put_if-clause-full : goal.returns-in_err-put_if-clause-full
returns-in_err-put_if-clause-full g c =
    on_err c.from_residual.result (surplus_components-full c.args.errors.now c.loop-value.errors _ c.args.element c.loop-value.component _ _ _ c.is_empty.result
    c.loop-value.invariant.same c.in-Some.ensures.value c.is_empty.ensures c.in_err-put_if.ensures.full)
