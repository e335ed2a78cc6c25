-- For bodies: a script on a text that was opened.
use Rattle.std.specs.Prelude.{◌≡◌, ◌⊎◌}
use Rattle.dir_compile.specs.Directory.{Directory}
use Rattle.edi_tables.specs.Octets.{Octets}
use Rattle.text_reading.specs.Placed.{AreMessagesPlaced}
use Rattle.run_outcome.specs.Finish.{IsFinish}
use Rattle.run_outcome.specs.Outcome.{memory_refused}
use Rattle.script_answers.specs.Ran.{Ran}
use Rattle.edicheck_core.specs.Scripted.{IsScriptAnswered}
use Rattle.edicheck_core.specs.declared.words.ScriptKind.{ScriptKind}

-- what a status says of a script of this kind on a text that was opened: memory was refused before it, and nothing was
-- taken; or it was answered
abbrev pub IsScriptBegun : ScriptKind → Directory → Octets → Ran → Type 0
IsScriptBegun kind dir text ran =
    (IsFinish memory_refused ran.sink_before ran.sink_after ran.status
    × (ran.input_after.octets ≡ ran.input_before.octets) × (ran.input_after.faults ≡ ran.input_before.faults))
    ⊎ (((text : Octets) → AreMessagesPlaced dir text) × IsScriptAnswered kind dir text ran)
