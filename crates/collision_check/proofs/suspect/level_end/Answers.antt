use Rattle.std.proofs.Common.{Some, ap, ◌∙◌}
use Rattle.edi_tables.proofs.PlaceLaws.{up}
use Rattle.collision_check.proofs.suspect.level_end.Goals as goal

pub node-requires : goal.node-requires
node-requires c =
    (up c.args.table.now c.args.i c.from.result (record { table = c.parent.ensures.lawful; within = c.requires }) (ap Some c.from.ensures ∙ c.in-Some.ensures.value)).within
