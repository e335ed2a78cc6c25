-- What is seen of a run of a script.
use Rattle.std.specs.Prelude.{ℕ, Option}
use Rattle.edi_tables.specs.Octets.{Octets}
use Rattle.edi_ports.specs.Faults.{HasRisen}
use Rattle.edi_ports.specs.declared.source.Source as source
use Rattle.run_outcome.specs.Held.{Held}
use Rattle.run_outcome.specs.declared.status.Status.{Status}

-- the octets that are left of an input, where it tells them, and the count of its faults
pub record Left : Type 0 where
  pub octets : Option Octets
  pub faults : ℕ

-- what is seen of an input
abbrev pub left_of_input : {I : Type 0} → source.Ghosts I → I → Left
left_of_input input i = record { octets = input.rest i; faults = input.faults i }

-- what is seen of the input and the sink before a run and after it, and the status that it ended with
pub record Ran : Type 0 where
  pub input_before : Left
  pub input_after : Left
  pub sink_before : Held
  pub sink_after : Held
  pub status : Status

-- the input failed in a run
abbrev pub HasInputFailed : Ran → Type 0
HasInputFailed ran = HasRisen ran.input_before.faults ran.input_after.faults

-- the sink failed in a run
abbrev pub HasSinkFailed : Ran → Type 0
HasSinkFailed ran = HasRisen ran.sink_before.faults ran.sink_after.faults
