-- How it ends where a whole output is put.
use Rattle.std.specs.Prelude.{◌≡◌, ◌⊎◌, ◌++◌, Option, Some, IfSome}
use Rattle.edi_tables.specs.Octets.{Octets}
use Rattle.edi_ports.specs.Faults.{HasRisen}
use Rattle.edi_ports.specs.Sink.{IsCut}
use Rattle.run_outcome.specs.declared.status.Status.{Status}
use Rattle.run_outcome.specs.declared.status.Status.TheVariants.{WriteFault}
use Rattle.run_outcome.specs.Held.{Held}
use Rattle.run_outcome.specs.Outcome.{Outcome}

-- a sink grew by these octets
abbrev pub Grew : Option Octets → Option Octets → Octets → Type 0
Grew before now octets = IfSome before (λ held. now ≡ Some (held ++ octets))

-- how it ends: as was due, with the whole output in the sink, or the sink failed and a proper prefix of it is there
abbrev pub IsFinish : Outcome → Held → Held → Status → Type 0
IsFinish due before now status =
    ((status ≡ due.status) × Grew before.octets now.octets due.output)
    ⊎ ((status ≡ WriteFault) × HasRisen before.faults now.faults × IsCut before.octets now.octets due.output)
