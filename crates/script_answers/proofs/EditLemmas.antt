-- What an editor answers, said of the text and the directory that it was made with.
use Rattle.std.proofs.Common.{◌≡◌, ◌∙◌, ◌≤◌, ℕ, List, length, Option, subst}
use Rattle.dir_compile.specs.Directory.{Directory}
use Rattle.edit_script.specs.Script.{AreCommands}
use Rattle.edit_script.specs.declared.command.Command.{Command}
use Rattle.edit_script.specs.declared.grammar.Grammar.TheVariants.{Edit}
use Rattle.kept_text.specs.Reading.{Reading}
use Rattle.run_outcome.specs.Outcome.{memory_refused}
use Rattle.run_outcome.specs.declared.status.Status.{Status}
use Rattle.script_answers.specs.Edit.{IsAnsweredInRoom, IsScriptAnswered}
use Rattle.script_answers.specs.EditReplies.{edit_replies}
use Rattle.script_answers.specs.Ran.{Ran}
use Rattle.script_answers.specs.Reply.{IsEditStep}
use Rattle.script_answers.specs.Script as script
use Rattle.script_answers.specs.Script.{HasRoomFor}
use Rattle.script_answers.proofs.RoomLemmas.{room_for_memory}

-- a script was answered by an editor of an engine that was opened with these
pub edit_answered : (engine editor : Reading) (dir : Directory) (text : List ℕ) (ran : Ran) → engine ≡ record { directory = dir; text = text } → editor ≡ engine → script.IsScriptAnswered (script.course_of Edit IsEditStep editor) ran → IsScriptAnswered dir text ran
edit_answered engine editor dir text ran is same answered =
    subst (λ (r : Reading). script.IsScriptAnswered (script.course_of Edit IsEditStep r) ran) (same ∙ is) answered

pub edit_in_room : (engine editor : Reading) (dir : Directory) (text : List ℕ) (before : Option (List ℕ)) (room : ℕ → Type 0) (status : Status) → engine ≡ record { directory = dir; text = text } → editor ≡ engine → script.IsAnsweredInRoom (script.course_of Edit IsEditStep editor) before room status → IsAnsweredInRoom dir text before room status
edit_in_room engine editor dir text before room status is same answered =
    subst (λ (r : Reading). script.IsAnsweredInRoom (script.course_of Edit IsEditStep r) before room status) (same ∙ is) answered

-- where there is room for the replies to commands of an edit, there is room for the line of want of memory
pub edit_room_for_memory : (has_room : ℕ → Type 0) (dir : Directory) (text : List ℕ) (cs : List Command) → AreCommands Edit cs → HasRoomFor has_room IsEditStep (record { directory = dir; text = text }) cs → (n : ℕ) × has_room n × (length memory_refused.output ≤ n)
edit_room_for_memory has_room dir text cs lawful room =
    room_for_memory {S = Reading} Edit has_room IsEditStep (record { directory = dir; text = text }) cs edit_replies lawful room
