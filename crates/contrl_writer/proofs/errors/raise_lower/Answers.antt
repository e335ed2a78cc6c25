use Rattle.std.proofs.Common.{◌∙◌}
use Rattle.contrl_writer.specs.Raising.{lower_raised}
use Rattle.contrl_writer.proofs.ChangeLemmas.{changed-all, changed-step}
use Rattle.contrl_writer.proofs.errors.raise_lower.Goals as goal

pub loop-x-preserved : goal.loop-x-preserved
loop-x-preserved c = changed-step lower_raised c.loop-x.x-index c.args.errors.now c.loop-x.errors _ c.raised_to_message.result c.loop-x-test.true c.loop-x.invariant c.raised_to_message.ensures

pub returns : goal.returns
returns c = c.loop-x.invariant ∙ changed-all lower_raised c.loop-x.x-index c.args.errors.now c.loop-x-test.false
