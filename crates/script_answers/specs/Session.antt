-- A script on a text, which its commands edit, undo and redo.
use Rattle.std.specs.Prelude.{ℕ, Option}
use Rattle.dir_compile.specs.Directory.{Directory}
use Rattle.edi_tables.specs.Octets.{Octets}
use Rattle.edi_history.specs.Past.{begun}
use Rattle.edi_history.specs.Reading.{PastReading}
use Rattle.edit_script.specs.declared.grammar.Grammar.TheVariants.{Session}
use Rattle.run_outcome.specs.declared.status.Status.{Status}
use Rattle.script_answers.specs.Ran.{Ran}
use Rattle.script_answers.specs.Script as script
use Rattle.script_answers.specs.SessionReply.{IsSessionStep}

-- how a script is answered on a text without a past, by a directory
abbrev pub course_on : Directory → Octets → script.Course PastReading
course_on dir text = script.course_of Session IsSessionStep (record { directory = dir; past = begun text })

-- a script was answered on a text without a past, by a directory
abbrev pub IsScriptAnswered : Directory → Octets → Ran → Type 0
IsScriptAnswered dir text ran = script.IsScriptAnswered (course_on dir text) ran

-- a script that ends with `end` is answered whole where neither the input nor the sink failed: only memory can be
-- refused
abbrev pub IsAnsweredWhole : Option Octets → Type 0 → Type 0 → Status → Type 0
IsAnsweredWhole before InputFailed SinkFailed status =
    script.IsAnsweredWhole Session before InputFailed SinkFailed status

-- a script that ends with `end` is answered whole on a text where the sink has room: only memory can be refused
abbrev pub IsAnsweredInRoom : Directory → Octets → Option Octets → (ℕ → Type 0) → Status → Type 0
IsAnsweredInRoom dir text before has_room status =
    script.IsAnsweredInRoom (course_on dir text) before has_room status
