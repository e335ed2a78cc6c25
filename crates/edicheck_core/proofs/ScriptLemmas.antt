-- How a script on a text that was opened begins.
use Rattle.std.proofs.Common.{◌≡◌, ℕ, List, subst, inr}
use Rattle.dir_compile.specs.declared.parts.Parts.{Parts}
use Rattle.text_reading.specs.Placed.{AreMessagesPlaced}
use Rattle.script_answers.specs.Ran.{Ran}
use Rattle.edicheck_core.specs.Begun.{IsScriptBegun}
use Rattle.edicheck_core.specs.Scripted.{IsScriptAnswered}
use Rattle.edicheck_core.specs.declared.words.ScriptKind.{ScriptKind}

-- a script was answered, by what was opened with this directory
pub script_begun : (kind : ScriptKind) (opened directory : Parts) (octets : List ℕ) (ran : Ran)
    → opened ≡ directory → ((text : List ℕ) → AreMessagesPlaced opened text)
    → IsScriptAnswered kind directory octets ran → IsScriptBegun kind directory octets ran
script_begun kind opened directory octets ran is placed answered =
    inr (subst (λ (d : Parts). (text : List ℕ) → AreMessagesPlaced d text) is placed, answered)
