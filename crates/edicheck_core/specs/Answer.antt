-- How a run ends.
use Rattle.std.specs.Prelude.{◌≡◌, ◌⊎◌, Option, Some, Ok}
use Rattle.edi_tables.specs.Octets.{Octets}
use Rattle.edi_ports.specs.Faults.{HasRisen}
use Rattle.text_reading.specs.Placed.{AreMessagesPlaced}
use Rattle.run_outcome.specs.Finish.{IsFinish}
use Rattle.run_outcome.specs.Outcome.{Outcome}
use Rattle.run_outcome.specs.Opening.{IsOpening, IsUnopened, Opened}
use Rattle.edicheck_core.specs.Due.{IsDue, Takes}
use Rattle.edicheck_core.specs.Form.{Asked, Script}
use Rattle.edicheck_core.specs.ProgramRun.{ProgramRun, script_run_of}
use Rattle.edicheck_core.specs.Scripted.{IsScriptAnswered}
use Rattle.edicheck_core.specs.declared.words.ScriptKind.{ScriptKind}

-- what a status says of a run that makes its whole output before it puts the first octet
abbrev pub IsSettled : Option Asked → ProgramRun → Type 0
IsSettled asked run =
    (due : Outcome) × IsDue asked run.before run.after due × Takes asked due.status run.before.rest run.after.rest
    × IsFinish due run.sink_before run.sink_after run.status

-- what a status says of a script of this kind: nothing was taken from the input, and a refusal was put; or a script was
-- answered on the directory and the text that were opened, and in trees by this directory each segment is placed first,
-- and a derivation is the only one
abbrev pub IsScripted : ScriptKind → Octets → Octets → ProgramRun → Type 0
IsScripted kind manifest name run =
    ((due : Outcome)
    × IsUnopened manifest name run.before.files (HasRisen run.before.shelf_faults run.after.shelf_faults) due
    × (run.after.rest ≡ run.before.rest) × (run.after.input_faults ≡ run.before.input_faults)
    × IsFinish due run.sink_before run.sink_after run.status)
    ⊎ ((begun : Opened) × IsOpening manifest name run.before.files (Ok begun)
    × ((text : Octets) → AreMessagesPlaced begun.directory text)
    × IsScriptAnswered kind begun.directory begun.text (script_run_of run))

-- what a status says of a run
abbrev pub IsAnswer : Option Asked → ProgramRun → Type 0
IsAnswer (Some (Script kind manifest text)) run = IsScripted kind manifest text run
IsAnswer asked run = IsSettled asked run
