use Rattle.std.proofs.Common.{sym, ap, ◌∙◌, Some}
use Rattle.edi_tables.proofs.PlaceLaws.{up}
use Rattle.edi_tables.proofs.levels.level_end.Goals as goal

pub end_at-requires : goal.end_at-requires
end_at-requires c = (up c.args.nodes.now c.args.i c.from.result c.requires (ap Some c.from.ensures ∙ sym c.in-Some.is ∙ c.parent_at.ensures)).within
