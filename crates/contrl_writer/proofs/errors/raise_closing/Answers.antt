use Rattle.std.proofs.Common.{◌∙◌}
use Rattle.contrl_writer.specs.Raising.{closing_raised}
use Rattle.contrl_writer.proofs.ChangeLemmas.{changed-all, changed-step}
use Rattle.contrl_writer.proofs.errors.raise_closing.Goals as goal

pub loop-x-preserved : goal.loop-x-preserved
loop-x-preserved c = changed-step closing_raised c.loop-x.x-index c.args.errors.now c.loop-x.errors _ c.raised_at_end.result c.loop-x-test.true c.loop-x.invariant c.raised_at_end.ensures

pub returns : goal.returns
returns c = c.loop-x.invariant ∙ changed-all closing_raised c.loop-x.x-index c.args.errors.now c.loop-x-test.false
