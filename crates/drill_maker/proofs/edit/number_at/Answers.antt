use Rattle.std.proofs.Common.{◌∙◌}
use Rattle.drill_maker.proofs.EditLemmas.{number_first, number_next}
use Rattle.drill_maker.proofs.edit.number_at.Goals as goal

pub loop-step-init : goal.loop-step-init
loop-step-init c = (number_first c.args.x, c.requires)

pub loop-step-preserved : goal.loop-step-preserved
loop-step-preserved c =
    (c.number_after-number.ensures.value ∙ number_next c.args.x c.loop-step.step c.loop-step.number c.loop-step.invariant.0, c.number_after-number.ensures.small)
