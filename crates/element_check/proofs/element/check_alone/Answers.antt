use Rattle.std.proofs.Common.{◌∙◌}
use Rattle.seg_lexer.specs.Value.{octets_of}
use Rattle.element_check.specs.Streams.{values_left}
use Rattle.element_check.proofs.ErrorsLemmas.{both_told, first_full, second_full, on_err, on_err_then, on_ok_then}
use Rattle.element_check.proofs.StreamLemmas.{alone-next, next_value}
use Rattle.element_check.proofs.element.check_alone.Goals as goal

pub returns-in_err-check_part-clause-full : goal.returns-in_err-check_part-clause-full
returns-in_err-check_part-clause-full g c =
    let next = next_value octets_of c.take-first.result (values_left c.args.element c.args.values.now) (values_left c.args.element c.take-first.new.self) c.take-first.ensures.value in
    on_err c.from_residual.result (first_full c.args.errors.now _ _ _ (alone-next c.args.rules.now c.args.element c.args.part.now _ _ _ next) c.in_err-check_part.ensures.full)

pub returns-clause-ok : goal.returns-clause-ok
returns-clause-ok g c =
    let next = next_value octets_of c.take-first.result (values_left c.args.element c.args.values.now) (values_left c.args.element c.take-first.new.self) c.take-first.ensures.value in
    on_ok_then c.check_surplus.result c.check_surplus.ensures.ok
    (both_told c.args.errors.now _ _ _ (alone-next c.args.rules.now c.args.element c.args.part.now _ _ _ next) c.check_part.new.errors c.check_surplus.new.errors c.in_ok-check_part.ensures.ok)

pub returns-clause-full : goal.returns-clause-full
returns-clause-full g c =
    let next = next_value octets_of c.take-first.result (values_left c.args.element c.args.values.now) (values_left c.args.element c.take-first.new.self) c.take-first.ensures.value in
    on_err_then c.check_surplus.result c.check_surplus.ensures.full
    (second_full c.args.errors.now _ _ _ (alone-next c.args.rules.now c.args.element c.args.part.now _ _ _ next) c.check_part.new.errors c.in_ok-check_part.ensures.ok)

pub returns-clause-after : goal.returns-clause-after
returns-clause-after g c = on_ok_then c.check_surplus.result c.check_surplus.ensures.after (λ is. is ∙ c.take-first.ensures.after)
