use Rattle.std.proofs.Common.{◌++◌, List, ap, ◌∙◌, arith}
use Rattle.seg_lexer.specs.Value.{octets_of}
use Rattle.element_check.specs.Streams.{values_left}
use Rattle.element_check.specs.declared.error.LocalError.{LocalError}
use Rattle.element_check.proofs.ErrorsLemmas.{full_step, next_step, last_full, on_err, on_err_then, on_ok_then}
use Rattle.element_check.proofs.StreamLemmas.{later_values-shorter, next_value, parts-next, parts_errors-end}
use Rattle.element_check.proofs.element.check_parts.Goals as goal

pub returns-in_err-check_part-clause-full : goal.returns-in_err-check_part-clause-full
returns-in_err-check_part-clause-full g c =
    let next = next_value octets_of c.take-value.result (values_left c.args.element c.loop-part.values) (values_left c.args.element c.take-value.new.self) c.take-value.ensures.value in
    on_err c.from_residual.result (full_step c.args.errors.now c.loop-part.errors _ _ _
    (ap (λ (es : List LocalError). c.loop-part.errors ++ es) (parts-next c.args.rules.now c.args.element c.loop-part.component c.args.named c.args.parts.now c.loop-part.part-index _ _ _ _ c.loop-part-test.true next)
    ∙ c.loop-part.invariant.same)
    c.in_err-check_part.ensures.full)

pub loop-part-preserved : goal.loop-part-preserved
loop-part-preserved g c =
    let next = next_value octets_of c.take-value.result (values_left c.args.element c.loop-part.values) (values_left c.args.element c.take-value.new.self) c.take-value.ensures.value in
    let number = c.loop-part.invariant.number in
    record {
      same = next_step c.args.errors.now c.loop-part.errors _ _ _ c.check_part.new.errors
          (ap (λ (es : List LocalError). c.loop-part.errors ++ es) (parts-next c.args.rules.now c.args.element c.loop-part.component c.args.named c.args.parts.now c.loop-part.part-index _ _ _ _ c.loop-part-test.true next)
          ∙ c.loop-part.invariant.same)
          c.in_ok-check_part.ensures.ok;
      number = omega arith;
      after = c.take-value.ensures.after ∙ c.loop-part.invariant.after;
      fits = later_values-shorter _ _ _ next.later c.loop-part.invariant.fits;
    }

pub returns-clause-full : goal.returns-clause-full
returns-clause-full g c =
    on_err_then c.check_surplus.result c.check_surplus.ensures.full (last_full c.args.errors.now c.loop-part.errors _ _
    (ap (λ (es : List LocalError). c.loop-part.errors ++ es) (parts_errors-end c.args.rules.now c.args.element c.loop-part.component c.args.named c.args.parts.now c.loop-part.part-index (values_left c.args.element c.loop-part.values) c.loop-part-test.false)
    ∙ c.loop-part.invariant.same))

pub returns-clause-after : goal.returns-clause-after
returns-clause-after g c = on_ok_then c.check_surplus.result c.check_surplus.ensures.after (λ is. is ∙ c.loop-part.invariant.after)
