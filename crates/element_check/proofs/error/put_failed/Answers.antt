use Rattle.std.proofs.Common.{◌++◌, ap, sym, ◌∙◌, List}
use Rattle.std.proofs.lemmas.List.{append-nil}
use Rattle.element_check.specs.declared.error.LocalError.{LocalError}
use Rattle.element_check.proofs.ErrorsLemmas.{full_step, on_err}
use Rattle.element_check.proofs.StreamLemmas.{told-next, told-none}
use Rattle.element_check.proofs.error.put_failed.Goals as goal

pub returns-then-not-is_any_failed-clause-ok : goal.returns-then-not-is_any_failed-clause-ok
returns-then-not-is_any_failed-clause-ok c =
    sym (ap (λ (es : List LocalError). c.args.errors.now ++ es) (told-none c.args.element c.args.component c.args.results.now (sym c.is_any_failed.ensures ∙ c.if-not-is_any_failed.true)) ∙ append-nil c.args.errors.now)

pub returns-in_err-put_if-clause-full : goal.returns-in_err-put_if-clause-full
returns-in_err-put_if-clause-full c =
    on_err c.from_residual.result (full_step c.args.errors.now c.loop-kind.errors _ _ _
    (ap (λ (es : List LocalError). c.loop-kind.errors ++ es) (told-next c.args.element c.args.component c.args.results.now c.loop-kind.kind-index _ c.loop-kind-test.true) ∙ c.loop-kind.invariant)
    c.in_err-put_if.ensures.full)
