use Rattle.std.proofs.Common.{◌≡◌, ◌+◌, ◌++◌, ◌<◌, List, length, ap, ◌∙◌, subst}
use Rattle.seg_lexer.specs.Value.{octets_of}
use Rattle.element_check.specs.Rules.{SegmentRules}
use Rattle.element_check.specs.Streams.{part_errors, part_rules, told_errors}
use Rattle.element_check.specs.declared.error.LocalError.{LocalError}
use Rattle.element_check.proofs.ErrorsLemmas.{on_ok_then, on_err_then}
use Rattle.element_check.proofs.StreamLemmas.{part-filled}
use Rattle.element_check.proofs.element.check_value.Goals as goal
use Rattle.element_check.proofs.element.check_value.Goals.{After-put_failed}

told : (g : _) (c : After-put_failed g) → told_errors c.args.element c.args.component c.test_value-results.result
    ≡ part_errors (part_rules c.args.rules.now c.args.named) c.args.element c.args.component c.args.part.now (octets_of c.args.value.now)
told g c = part-filled c.args.rules.now c.args.element c.args.component c.args.part.now c.args.named (octets_of c.args.value.now) c.is_empty.result
    c.rules.inside.context.now c.list_unless-list.result c.test_value-results.result
    (ap (λ (r : SegmentRules). r.context) c.rules.view_is) c.list_unless-list.ensures c.test_value-results.ensures c.is_empty.ensures c.if-is_empty.false

pub returns-clause-ok : goal.returns-clause-ok
returns-clause-ok g c =
    on_ok_then c.put_failed.result c.put_failed.ensures.ok (λ is. is ∙ ap (λ (es : List LocalError). c.args.errors.now ++ es) (told g c))

pub returns-clause-full : goal.returns-clause-full
returns-clause-full g c =
    on_err_then c.put_failed.result c.put_failed.ensures.full (subst (λ (es : List LocalError). 4 < length c.args.errors.now + length es) (told g c))
