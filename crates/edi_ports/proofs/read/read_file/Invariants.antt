use Rattle.std.proofs.Common.{◌≡◌, ◌+◌, ◌-◌, ◌≤◌, length, true}
use Rattle.edi_ports.specs.Read.{HasTaken}
use Rattle.edi_ports.proofs.read.read_file.Given as goal

abbrev pub invariant-loop-n : goal.invariant-loop-n
invariant-loop-n g l = record {
  within : length l.octets.items ≤ l.limit;
  told : HasTaken (g.S.Shelf.rest l.fn.shelf) l.octets.items (g.S.Shelf.rest l.shelf);
  counted : g.S.Shelf.faults l.fn.shelf ≤ g.S.Shelf.faults l.shelf;
  steady : g.S.Shelf.is_steady l.fn.shelf → g.S.Shelf.is_steady l.shelf;
  stays_open : g.S.Shelf.is_open l.shelf ≡ true;
  files : g.S.Shelf.files l.shelf ≡ g.S.Shelf.files l.fn.shelf;
}

abbrev pub decreases-loop-n : goal.decreases-loop-n
decreases-loop-n g l = l.limit + 1 - length l.octets.items
