use Rattle.std.proofs.Common.{sym, ◌∙◌}
use Rattle.element_check.specs.Streams.{after_left, components_ahead, values_left}
use Rattle.element_check.proofs.StreamLemmas.{after_run-none}
use Rattle.element_check.proofs.values.Ahead.pass.Goals as goal

pub returns : goal.returns
unfolding values_left after_left
returns g c =
    sym (after_run-none c.args.element c.take.new.self.repetition (components_ahead c.take.new.self) c.in_default.ensures.value.1)
    ∙ c.take.ensures.after ∙ c.loop-value.invariant
