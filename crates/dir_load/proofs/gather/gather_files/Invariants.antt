use Rattle.std.proofs.Common.{◌≡◌, ◌≤◌, [], List, Some, take}
use Rattle.edi_ports.specs.declared.shelf.ShelfFile.{ShelfFile}
use Rattle.dir_load.specs.Gathered.{IsFormed, found_of}
use Rattle.dir_load.specs.Load.{found_on, refusals_of}
use Rattle.dir_load.proofs.gather.gather_files.Given as goal

abbrev pub invariant-loop-line : goal.invariant-loop-line
invariant-loop-line g l = record {
  none : (files : List ShelfFile) → g.S.Shelf.files l.fn.shelf ≡ Some files → refusals_of files (take l.line-index l.lines) ≡ [];
  found : (files : List ShelfFile) → g.S.Shelf.files l.fn.shelf ≡ Some files → found_of l.gathered ≡ found_on files (take l.line-index l.lines);
  formed : IsFormed l.line-index l.gathered;
  files : g.S.Shelf.files l.shelf ≡ g.S.Shelf.files l.fn.shelf;
  counted : g.S.Shelf.faults l.fn.shelf ≤ g.S.Shelf.faults l.shelf;
  steady : g.S.Shelf.is_steady l.fn.shelf → g.S.Shelf.is_steady l.shelf;
}
