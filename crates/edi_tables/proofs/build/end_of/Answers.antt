use Rattle.std.proofs.Common.{sym}
use Rattle.edi_tables.proofs.Depths.{end_of_counted, depth_at-get_or}
use Rattle.edi_tables.proofs.build.end_of.Goals as goal

pub returns : goal.returns
returns c =
    let rows = c.args.rows.now in
    sym (end_of_counted rows c.args.i _ _ c.requires.within (sym (depth_at-get_or rows c.args.i _ c.requires.within)) c.deeper_rows-inside.ensures.value)
