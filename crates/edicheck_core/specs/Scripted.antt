-- What the answers to a script come to, by the kind of the script.
use Rattle.std.specs.Prelude.{ℕ, Option}
use Rattle.dir_compile.specs.Directory.{Directory}
use Rattle.edi_tables.specs.Octets.{Octets}
use Rattle.run_outcome.specs.Opening.{Opened}
use Rattle.run_outcome.specs.declared.status.Status.{Status}
use Rattle.script_answers.specs.Edit as edit
use Rattle.script_answers.specs.Ran.{Ran}
use Rattle.script_answers.specs.Session as session
use Rattle.edicheck_core.specs.declared.words.ScriptKind.{ScriptKind}
use Rattle.edicheck_core.specs.declared.words.ScriptKind.TheVariants.{Edits, Sessions}

-- a script of this kind was answered on a text, by a directory
abbrev pub IsScriptAnswered : ScriptKind → Directory → Octets → Ran → Type 0
IsScriptAnswered Edits dir text ran = edit.IsScriptAnswered dir text ran
IsScriptAnswered Sessions dir text ran = session.IsScriptAnswered dir text ran

-- a script of this kind that ends with `end` is answered whole where neither the input nor the sink failed
abbrev pub IsAnsweredWhole : ScriptKind → Option Octets → Type 0 → Type 0 → Status → Type 0
IsAnsweredWhole Edits before InputFailed SinkFailed status = edit.IsAnsweredWhole before InputFailed SinkFailed status
IsAnsweredWhole Sessions before InputFailed SinkFailed status =
    session.IsAnsweredWhole before InputFailed SinkFailed status

-- and where the sink has room for whatever replies its commands may get
abbrev pub IsAnsweredInRoom : ScriptKind → Opened → Option Octets → (ℕ → Type 0) → Status → Type 0
IsAnsweredInRoom Edits opened before has_room status =
    edit.IsAnsweredInRoom opened.directory opened.text before has_room status
IsAnsweredInRoom Sessions opened before has_room status =
    session.IsAnsweredInRoom opened.directory opened.text before has_room status
