use Rattle.std.proofs.Common.{◌≡◌, drop}
use Rattle.edi_ports.specs.Shelf.{file_named}
use Rattle.edi_ports.proofs.memory.shelf.position_of.Given as goal

abbrev pub invariant-loop-i : goal.invariant-loop-i
invariant-loop-i l = file_named l.name (drop l.i l.files) ≡ file_named l.name l.files
