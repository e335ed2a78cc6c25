-- What is seen of a sink.
use Rattle.std.specs.Prelude.{ℕ, Option}
use Rattle.edi_tables.specs.Octets.{Octets}
use Rattle.edi_ports.specs.declared.sink.Sink as sink

-- the octets that a sink holds, where it gives them, and the count of its faults
pub record Held : Type 0 where
  pub octets : Option Octets
  pub faults : ℕ

-- what is seen of a sink
abbrev pub held_of : {O : Type 0} → sink.Ghosts O → O → Held
held_of sink o = record { octets = sink.held o; faults = sink.faults o }
