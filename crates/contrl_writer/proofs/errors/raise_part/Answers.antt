use Rattle.std.proofs.Common.{◌∙◌}
use Rattle.contrl_writer.specs.Raising.{part_raised}
use Rattle.contrl_writer.proofs.ChangeLemmas.{changed-all, changed-step}
use Rattle.contrl_writer.proofs.errors.raise_part.Goals as goal

pub loop-x-preserved : goal.loop-x-preserved
loop-x-preserved c = changed-step part_raised c.loop-x.x-index c.args.errors.now c.loop-x.errors _ c.raised_to_group.result c.loop-x-test.true c.loop-x.invariant c.raised_to_group.ensures

pub returns : goal.returns
returns c = c.loop-x.invariant ∙ changed-all part_raised c.loop-x.x-index c.args.errors.now c.loop-x-test.false
