-- What a session answers, said of the text and the directory that it was made with.
use Rattle.std.proofs.Common.{◌≡◌, ◌≤◌, ℕ, List, length, Option, ap, subst}
use Rattle.dir_compile.specs.Directory.{Directory}
use Rattle.edi_history.specs.Past.{begun}
use Rattle.edi_history.specs.Reading.{PastReading, present_of}
use Rattle.kept_text.specs.Reading.{Reading}
use Rattle.edit_script.specs.Script.{AreCommands}
use Rattle.edit_script.specs.declared.command.Command.{Command}
use Rattle.edit_script.specs.declared.grammar.Grammar.TheVariants.{Session}
use Rattle.run_outcome.specs.Outcome.{memory_refused}
use Rattle.run_outcome.specs.declared.status.Status.{Status}
use Rattle.script_answers.specs.Ran.{Ran}
use Rattle.script_answers.specs.Script as script
use Rattle.script_answers.specs.Script.{HasRoomFor}
use Rattle.script_answers.specs.Session.{IsAnsweredInRoom, IsScriptAnswered}
use Rattle.script_answers.specs.SessionReplies.{session_replies}
use Rattle.script_answers.specs.SessionReply.{IsSessionStep}
use Rattle.text_reading.specs.Placed.{AreMessagesPlaced}
use Rattle.script_answers.proofs.RoomLemmas.{room_for_memory}

-- trees by the directory of an engine, which is that of its session
pub session_trees : (session : PastReading) (engine : Reading) → engine ≡ present_of session → ((text : List ℕ) → AreMessagesPlaced engine.directory text) → (text : List ℕ) → AreMessagesPlaced session.directory text
session_trees session engine is placed = subst (λ (r : Reading). (text : List ℕ) → AreMessagesPlaced r.directory text) is placed

-- the directory of a session that was opened with it
pub session_directory : (session : PastReading) (dir : Directory) (text : List ℕ) → session ≡ record { directory = dir; past = begun text } → session.directory ≡ dir
session_directory session dir text is = ap (λ (r : PastReading). r.directory) is

-- a script was answered by a session that was opened with these
pub session_answered : (session : PastReading) (dir : Directory) (text : List ℕ) (ran : Ran) → session ≡ record { directory = dir; past = begun text } → script.IsScriptAnswered (script.course_of Session IsSessionStep session) ran → IsScriptAnswered dir text ran
session_answered session dir text ran is answered =
    subst (λ (r : PastReading). script.IsScriptAnswered (script.course_of Session IsSessionStep r) ran) is answered

pub session_in_room : (session : PastReading) (dir : Directory) (text : List ℕ) (before : Option (List ℕ)) (room : ℕ → Type 0) (status : Status) → session ≡ record { directory = dir; past = begun text } → script.IsAnsweredInRoom (script.course_of Session IsSessionStep session) before room status → IsAnsweredInRoom dir text before room status
session_in_room session dir text before room status is answered =
    subst (λ (r : PastReading). script.IsAnsweredInRoom (script.course_of Session IsSessionStep r) before room status) is answered

-- where there is room for the replies to commands of a session, there is room for the line of want of memory
pub session_room_for_memory : (has_room : ℕ → Type 0) (dir : Directory) (text : List ℕ) (cs : List Command) → AreCommands Session cs → HasRoomFor has_room IsSessionStep (record { directory = dir; past = begun text }) cs → (n : ℕ) × has_room n × (length memory_refused.output ≤ n)
session_room_for_memory has_room dir text cs lawful room =
    room_for_memory {S = PastReading} Session has_room IsSessionStep (record { directory = dir; past = begun text }) cs session_replies lawful room
