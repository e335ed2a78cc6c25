use Rattle.element_check.specs.Streams.{seen}
use Rattle.element_check.proofs.ErrorsLemmas.{on_err}
use Rattle.element_check.proofs.StreamLemmas.{surplus_elements-full}
use Rattle.element_check.proofs.check.check_surplus.Goals as goal

pub returns-in_err-put_if-clause-full : goal.returns-in_err-put_if-clause-full
returns-in_err-put_if-clause-full g c =
    on_err c.from_residual.result (surplus_elements-full c.args.errors.now c.loop-found.errors _ c.loop-found.told _ (seen c.in-Some.found) _ c.is_empty.result
    c.loop-found.invariant c.in-Some.ensures.next c.if-found-told.true c.if-found-gt0.true c.is_empty.ensures c.if-not-is_empty.true c.in_err-put_if.ensures.full)
