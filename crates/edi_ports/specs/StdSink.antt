-- What a sink over a writer counts and writes.
use Rattle.std.specs.Prelude.{ℕ, Option}
use Rattle.edi_tables.specs.Octets.{Octets}
use Rattle.edi_ports.specs.declared.adapters.sink.StdSink.{StdSink}

-- how often it failed
abbrev pub faults_of : {W : Type 0} → StdSink W → ℕ
faults_of sink = sink.faults

-- what its writer was given, by what the writer tells
abbrev pub written_by : {W : Type 0} → (W → Option Octets) → StdSink W → Option Octets
written_by contents sink = contents sink.writer
