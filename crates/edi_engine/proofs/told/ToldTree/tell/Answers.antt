use Rattle.std.proofs.Common.{sym, subst}
use Rattle.error_ledger.specs.Printing.{IsWellPlaced}
use Rattle.segment_records.specs.Look.{seen_of}
use Rattle.edi_engine.proofs.Telling.{is_well}
use Rattle.edi_engine.proofs.told.ToldTree.tell.Goals as goal

pub put_tree_line-requires : goal.put_tree_line-requires
put_tree_line-requires c =
    subst IsWellPlaced (sym c.line_of-line.ensures)
    (is_well c.args.directory.now c.requires.lawful (seen_of c.args.seen.now) c.requires.follows)
