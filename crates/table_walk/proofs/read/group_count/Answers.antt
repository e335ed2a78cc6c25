use Rattle.std.proofs.Common.{◌+◌, ℕ, Option, ap, ◌∙◌}
use Rattle.std.specs.Prelude.{count_by}
use Rattle.edi_tables.specs.Walk.{parent_at}
use Rattle.edi_tables.specs.Placement.{is_at, placed_since}
use Rattle.table_walk.proofs.Backwards.{group_since}
use Rattle.table_walk.proofs.read.group_count.Goals as goal

pub returns : goal.returns
returns c =
    c.count_since.ensures
    ∙ ap (λ (parent : Option ℕ). count_by (is_at (c.from-2.result + 1)) (placed_since parent c.args.placed.now)) (c.parent-parent.ensures.value ∙ ap (parent_at c.args.table.now) c.from.ensures)
    ∙ ap (λ (g : ℕ). count_by (is_at (g + 1)) (placed_since (parent_at c.args.table.now c.args.group) c.args.placed.now)) c.from-2.ensures
    ∙ group_since c.args.table.now c.parent-parent.ensures.lawful c.args.placed.now c.args.group
