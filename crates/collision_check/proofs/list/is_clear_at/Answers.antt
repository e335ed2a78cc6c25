use Rattle.std.proofs.Common.{sym, ◌∙◌}
use Rattle.collision_check.proofs.GoesOn.{clear_on}
use Rattle.collision_check.proofs.list.is_clear_at.Goals as goal

pub returns-then-goes_on : goal.returns-then-goes_on
returns-then-goes_on c = λ _.
    clear_on c.args.table.now c.goes_on.ensures.lawful c.args.entry (c.requires.clear c.if-is_clear.true) c.requires.within c.requires.segment (sym c.goes_on.ensures.value ∙ c.if-goes_on.true)
