use Rattle.std.proofs.Common.{◌≡◌, ◌<◌, ◌++◌, ◌+◌, ◌^◌, List, drop, length, refl, sym, ap, subst, ◌∙◌, arith}
use Rattle.seg_lexer.specs.Fields.{Component}
use Rattle.seg_lexer.specs.Left.{components_left}
use Rattle.element_check.specs.Rules.{SegmentRules}
use Rattle.element_check.specs.Streams.{AreOrdered, after_front, components_ahead, repeated_errors}
use Rattle.element_check.specs.declared.error.LocalError.{LocalError}
use Rattle.element_check.proofs.ErrorsLemmas.{full_step, next_step, last_full, on_err, on_err_then, on_ok_then}
use Rattle.element_check.proofs.RunLemmas.{ordered-after}
use Rattle.element_check.proofs.StreamLemmas.{after-few, repeated-end, repeated-step}
use Rattle.element_check.proofs.check.check_elements.Goals as goal

pub loop-item-init : goal.loop-item-init
loop-item-init g c = record {
  same = ap (λ (cs : List Component). c.args.errors.now ++ repeated_errors c.args.rules.now 0 c.args.rules.now.items cs) c.of-rest.ensures;
  number = refl;
  few = subst (λ (cs : List Component). length cs < 2 ^ 31) (sym c.of-rest.ensures) c.requires.few;
  ordered = subst (AreOrdered 1 0) (sym c.of-rest.ensures) c.requires.ordered;
}

pub check_element-requires : goal.check_element-requires
check_element-requires g c = record { few = c.loop-item.invariant.few; ordered = c.loop-item.invariant.ordered }

pub returns-in_err-check_element-clause-full : goal.returns-in_err-check_element-clause-full
returns-in_err-check_element-clause-full g c =
    on_err c.from_residual.result (full_step c.args.errors.now c.loop-item.errors _ _ (repeated_errors c.args.rules.now 0 c.args.rules.now.items (components_left c.args.elements))
    (ap (λ (es : List LocalError). c.loop-item.errors ++ es)
    (repeated-step c.args.rules.now c.loop-item.element c.rules.inside.items.now c.loop-item.item-index _ (components_ahead c.loop-item.rest) (ap (λ (r : SegmentRules). r.items) c.rules.view_is) c.loop-item-test.true)
    ∙ c.loop-item.invariant.same)
    c.in_err-check_element.ensures.full)

pub loop-item-preserved : goal.loop-item-preserved
loop-item-preserved g c =
    let number = c.loop-item.invariant.number in
    let passed : components_ahead c.check_element.new.rest ≡ after_front (c.loop-item.element + 1) (components_ahead c.loop-item.rest) = c.in_ok-check_element.ensures.after in
    record {
      same =
          ap (λ (cs : List Component). c.check_element.new.errors ++ repeated_errors c.args.rules.now (c.loop-item.element + 1) (drop (c.loop-item.item-index + 1) c.args.rules.now.items) cs) passed
          ∙ next_step c.args.errors.now c.loop-item.errors _ _ _ c.check_element.new.errors
          (ap (λ (es : List LocalError). c.loop-item.errors ++ es)
          (repeated-step c.args.rules.now c.loop-item.element c.rules.inside.items.now c.loop-item.item-index _ (components_ahead c.loop-item.rest) (ap (λ (r : SegmentRules). r.items) c.rules.view_is) c.loop-item-test.true)
          ∙ c.loop-item.invariant.same)
          c.in_ok-check_element.ensures.ok;
      number = omega arith;
      few = after-few (c.loop-item.element + 1) _ (components_ahead c.loop-item.rest) _ passed c.loop-item.invariant.few;
      ordered = subst (AreOrdered (c.loop-item.element + 1 + 1) 0) (sym passed) (ordered-after (c.loop-item.element + 1) 0 (components_ahead c.loop-item.rest) c.loop-item.invariant.ordered);
    }

pub returns-clause-ok : goal.returns-clause-ok
returns-clause-ok g c =
    on_ok_then c.check_surplus.result c.check_surplus.ensures.ok (λ is.
    is ∙ ap (λ (es : List LocalError). c.loop-item.errors ++ es) (repeated-end c.args.rules.now c.loop-item.element c.rules.inside.items.now c.loop-item.item-index (components_ahead c.loop-item.rest) (ap (λ (r : SegmentRules). r.items) c.rules.view_is) c.loop-item-test.false)
    ∙ c.loop-item.invariant.same)

pub returns-clause-full : goal.returns-clause-full
returns-clause-full g c =
    on_err_then c.check_surplus.result c.check_surplus.ensures.full (last_full c.args.errors.now c.loop-item.errors _ (repeated_errors c.args.rules.now 0 c.args.rules.now.items (components_left c.args.elements))
    (ap (λ (es : List LocalError). c.loop-item.errors ++ es) (repeated-end c.args.rules.now c.loop-item.element c.rules.inside.items.now c.loop-item.item-index (components_ahead c.loop-item.rest) (ap (λ (r : SegmentRules). r.items) c.rules.view_is) c.loop-item-test.false)
    ∙ c.loop-item.invariant.same))
