use Rattle.std.proofs.Common.{◌∙◌, sym, subst}
use Rattle.table_walk.specs.Steps.{IsShaped}
use Rattle.table_walk.proofs.Placing.{pairs_first, shaped_first}
use Rattle.table_walk.proofs.state.start.Goals as goal

pub returns-clause-pairs : goal.returns-clause-pairs
returns-clause-pairs c = c.one.ensures ∙ pairs_first c.args.table.now c.len.ensures.lawful

pub returns-clause-shaped : goal.returns-clause-shaped
returns-clause-shaped c =
    subst (IsShaped c.args.table.now) (sym (c.one.ensures ∙ pairs_first c.args.table.now c.len.ensures.lawful)) (shaped_first c.args.table.now c.len.ensures.lawful)
