-- A script on a text, which its commands edit.
use Rattle.std.specs.Prelude.{ℕ, Option}
use Rattle.dir_compile.specs.Directory.{Directory}
use Rattle.edi_tables.specs.Octets.{Octets}
use Rattle.edit_script.specs.declared.grammar.Grammar.TheVariants.{Edit}
use Rattle.kept_text.specs.Reading.{Reading}
use Rattle.run_outcome.specs.declared.status.Status.{Status}
use Rattle.script_answers.specs.Ran.{Ran}
use Rattle.script_answers.specs.Reply.{IsEditStep}
use Rattle.script_answers.specs.Script as script

-- how a script is answered on a text, by a directory
abbrev pub course_on : Directory → Octets → script.Course Reading
course_on dir text = script.course_of Edit IsEditStep (record { directory = dir; text = text })

-- a script was answered on a text, by a directory
abbrev pub IsScriptAnswered : Directory → Octets → Ran → Type 0
IsScriptAnswered dir text ran = script.IsScriptAnswered (course_on dir text) ran

-- a script that ends with `end` is answered whole where neither the input nor the sink failed: only memory can be
-- refused
abbrev pub IsAnsweredWhole : Option Octets → Type 0 → Type 0 → Status → Type 0
IsAnsweredWhole before InputFailed SinkFailed status = script.IsAnsweredWhole Edit before InputFailed SinkFailed status

-- a script that ends with `end` is answered whole on a text where the sink has room: only memory can be refused
abbrev pub IsAnsweredInRoom : Directory → Octets → Option Octets → (ℕ → Type 0) → Status → Type 0
IsAnsweredInRoom dir text before has_room status =
    script.IsAnsweredInRoom (course_on dir text) before has_room status
