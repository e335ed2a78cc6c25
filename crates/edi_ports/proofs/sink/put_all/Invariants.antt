use Rattle.std.proofs.Common.{◌-◌, ◌≤◌, ℕ, length}
use Rattle.edi_ports.specs.Sink.{HasPut}
use Rattle.edi_ports.proofs.sink.put_all.Given as goal

abbrev pub invariant-loop-rest : goal.invariant-loop-rest
invariant-loop-rest g l = record {
  put : HasPut (g.O.Sink.held l.fn.out) (g.O.Sink.held l.out) l.part l.rest;
  counted : g.O.Sink.faults l.fn.out ≤ g.O.Sink.faults l.out;
  room : (n : ℕ) → g.O.Sink.has_room l.fn.out n → length l.part ≤ n → g.O.Sink.has_room l.out (n - (length l.part - length l.rest));
}

abbrev pub decreases-loop-rest : goal.decreases-loop-rest
decreases-loop-rest g l = length l.rest
