-- What a script on a text comes to.
use Rattle.std.specs.Prelude.{◌≡◌, ◌⊎◌, [], Some, Result, Ok, Err}
use Rattle.edi_tables.specs.Octets.{Octets}
use Rattle.dir_compile.specs.Directory.{Directory}
use Rattle.run_outcome.specs.declared.status.Status.{Status}
use Rattle.run_outcome.specs.declared.status.Status.TheVariants.{Done, BadScript}
use Rattle.script_answers.specs.Edit.{IsScriptAnswered}
use Rattle.script_answers.specs.Ran.{Ran}
use Rattle.edicheck_c.specs.Answer.{printing}
use Rattle.edicheck_c.specs.Told.{opened_with_script}
use Rattle.edicheck_c.specs.declared.answer.Answer.{Answer}
use Rattle.edicheck_c.specs.declared.code.TheConstants.{BAD_SCRIPT, DONE}

-- a script was answered on a text, by a directory: the run ended with this status, and put these octets
abbrev pub IsRun : Directory → Octets → Octets → Status → Octets → Type 0
IsRun directory text script status printed =
    (ran : Ran) × IsScriptAnswered directory text ran × (ran.input_before.octets ≡ Some script)
    × (ran.sink_before.octets ≡ Some []) × (ran.sink_after.octets ≡ Some printed) × (ran.status ≡ status)

-- the replies to a script that ends with `end`; or those to its front, and the line that tells why it stopped there
abbrev pub IsReplied : Directory → Octets → Octets → Answer → Type 0
IsReplied directory text script answer =
    ((answer ≡ printing DONE answer.printed) × IsRun directory text script Done answer.printed)
    ⊎ ((answer ≡ printing BAD_SCRIPT answer.printed) × IsRun directory text script BadScript answer.printed)

-- the replies by the directory, or the refusal in its place
abbrev pub IsToldBy : (Directory → Answer → Type 0) → Result Directory Answer → Answer → Type 0
IsToldBy IsTold (Ok directory) answer = IsTold directory answer
IsToldBy IsTold (Err refusal) answer = answer ≡ refusal

-- what the script on a text comes to, by the directory that a store spells
abbrev pub IsScriptAnswer : Octets → Octets → Octets → Answer → Type 0
IsScriptAnswer store text script answer =
    IsToldBy (λ directory. IsReplied directory text script) (opened_with_script store text script) answer
