use Rattle.std.proofs.Common.{◌+◌, ◌-◌, ◌≤◌, length}
use Rattle.edi_ports.specs.Read.{HasTaken}
use Rattle.edi_ports.proofs.read.read_all.Given as goal

abbrev pub invariant-loop-n : goal.invariant-loop-n
invariant-loop-n g l = record {
  within : length l.rest.items ≤ l.limit;
  told : HasTaken (g.I.Source.rest l.fn.input) l.rest.items (g.I.Source.rest l.input);
  counted : g.I.Source.faults l.fn.input ≤ g.I.Source.faults l.input;
  steady : g.I.Source.is_steady l.fn.input → g.I.Source.is_steady l.input;
}

abbrev pub decreases-loop-n : goal.decreases-loop-n
decreases-loop-n g l = l.limit + 1 - length l.rest.items
