use Rattle.std.proofs.Common.{◌≡◌, ◌++◌, List, take, drop, subst, arith}
use Rattle.element_check.specs.Merging.{merged}
use Rattle.element_check.specs.declared.error.LocalError.{LocalError}
use Rattle.element_check.proofs.ErrorsLemmas.{on_err}
use Rattle.element_check.proofs.MergeLemmas.{all-known, merged-longer}
use Rattle.element_check.proofs.merge.absorb.Goals as goal

pub returns-then-first-fresh-clause-ok : goal.returns-then-first-fresh-clause-ok
returns-then-first-fresh-clause-ok c =
    let first = c.first_new-first.result in
    let fresh = c.args.fresh.now in
    all-known c.args.known.now fresh first.at first.passed
    (subst (λ (es : List LocalError). merged es fresh ≡ take first.at es ++ merged (drop first.at es) (drop first.passed fresh)) c.as_slice.ensures c.first_new-first.ensures.front)
    c.if-first-fresh.true

pub returns-in_err-later-clause-full : goal.returns-in_err-later-clause-full
returns-in_err-later-clause-full c =
    on_err c.from_residual.result (omega (arith, merged-longer c.args.known.now c.args.fresh.now, c.in_err-later.ensures.full))
