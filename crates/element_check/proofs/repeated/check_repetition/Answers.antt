use Rattle.std.proofs.Common.{◌+◌, ◌<◌, ◌≤◌, false, List, length, subst, arith}
use Rattle.element_check.specs.Merging.{merged}
use Rattle.element_check.specs.Streams.{demanded, item_errors, values_left}
use Rattle.element_check.specs.declared.error.LocalError.{LocalError}
use Rattle.element_check.proofs.ErrorsLemmas.{on_err}
use Rattle.element_check.proofs.MergeLemmas.{merged-longer_fresh}
use Rattle.element_check.proofs.repeated.check_repetition.Goals as goal

pub returns-in_err-check_item-clause-full : goal.returns-in_err-check_item-clause-full
returns-in_err-check_item-clause-full g c =
    let fresh : List LocalError = item_errors c.args.rules.now c.args.element (demanded false c.args.item.now) (values_left c.args.element c.args.rest.now) in
    let full : 4 < 0 + length fresh = subst (λ (es : List LocalError). 4 < length es + length fresh) c.none-fresh.ensures c.in_err-check_item.ensures.full in
    let longer : length fresh ≤ length (merged c.args.all.now fresh) = merged-longer_fresh c.args.all.now fresh in
    let most : 4 < length (merged c.args.all.now fresh) = omega arith in
    on_err c.from_residual.result most
