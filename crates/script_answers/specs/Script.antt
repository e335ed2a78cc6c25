-- What a run of a script comes to, whatever a step of it does: a table of its statuses.
use Rattle.std.specs.Prelude.{◌≡◌, ◌⊎◌, ◌<◌, ◌≤◌, ◌+◌, ⊤, ℕ, List, [], ◌∷◌, ◌++◌, length, take, Option, Some, IfSome, codes, decimal}
use Rattle.edi_tables.specs.Octets.{Octets}
use Rattle.edit_script.specs.Command.{IsCommandText, IsPart, IsBadLine}
use Rattle.edit_script.specs.Script.{AreCommands, script_text}
use Rattle.edit_script.specs.declared.command.Command.{Command}
use Rattle.edit_script.specs.declared.command.Command.TheVariants.{End}
use Rattle.edit_script.specs.declared.grammar.Grammar.{Grammar}
use Rattle.edit_script.specs.declared.stop.ScriptStop.{ScriptStop}
use Rattle.edit_script.specs.declared.stop.ScriptStop.TheVariants as stop
use Rattle.run_outcome.specs.declared.status.Status.{Status}
use Rattle.run_outcome.specs.declared.status.Status.TheVariants.{Done, BadScript, Memory, ReadFault, WriteFault}
use Rattle.run_outcome.specs.Outcome.{Outcome, memory_refused, read_failed, refused, too_large}
use Rattle.script_answers.specs.Answers.{Answers, AnswersCut, Step}
use Rattle.script_answers.specs.Ran.{HasInputFailed, HasSinkFailed, Ran}

-- how many octets a script may have
abbrev pub longest_script : ℕ
longest_script = 1073741824

-- none of these commands is `end`
abbrev pub IsOpen : List Command → Type 0
IsOpen [] = ⊤
IsOpen (End ∷ cs) = ⊥
IsOpen (c ∷ cs) = IsOpen cs

-- the last of these commands is `end`, and no other
abbrev pub IsEnded : List Command → Type 0
IsEnded cs = (front : List Command) × IsOpen front × (cs ≡ front ++ End ∷ [])

-- a script that no command follows is refused: a bad line, or its end inside of a command, with the number of that
-- command; or it is too long; or the input failed; or memory was refused
abbrev pub stopped_by : ScriptStop → Outcome
stopped_by (stop.BadLine number) = refused BadScript (codes "fault script " ++ decimal number ++ codes " line")
stopped_by (stop.CutShort number) = refused BadScript (codes "fault script " ++ decimal number ++ codes " cut")
stopped_by stop.TooLong = too_large (codes "-")
stopped_by stop.Fault = read_failed
stopped_by stop.Memory = memory_refused

-- what was taken after so many commands, where the script has so many octets with it, and these are left on the input:
-- a bad line, as far as it tells itself; a part of a command, at the input's end; one after which no octet may be
-- taken; one at a fault; for want of memory, a part of a command or a whole one
abbrev pub IsRest : Grammar → ScriptStop → ℕ → Octets → ℕ × Octets → Type 0
IsRest g (stop.BadLine number) commands rest taken = (number ≡ commands + 1) × IsBadLine g rest
IsRest g (stop.CutShort number) commands rest taken =
    (number ≡ commands + 1) × IsPart g rest × (taken.0 < longest_script) × (taken.1 ≡ [])
IsRest g stop.TooLong commands rest taken = IsPart g rest × (taken.0 ≡ longest_script)
IsRest g stop.Fault commands rest taken = IsPart g rest × (taken.0 < longest_script)
IsRest g stop.Memory commands rest taken = IsPart g rest ⊎ IsCommandText g rest

-- what a run did: the octets that it took of a script, those that it left on the input, and those that it put
pub record Account : Type 0 where
  pub script : Octets
  pub left : Octets
  pub put : Octets

-- how a script is answered: the grammar of its commands, what each of them does, and the state that the first finds
pub record Course (S : Type 0) : Type 1 where
  pub grammar : Grammar
  pub IsStep : Step S
  pub state : S

-- the course of a grammar, a step and a state
abbrev pub course_of : {S : Type 0} → Grammar → Step S → S → Course S
course_of g IsStep state = record { grammar = g; IsStep = IsStep; state = state }

-- a script was stopped: what was taken of it is commands without `end`, which are answered, and what made it stop; and
-- these octets were put after the replies
abbrev pub IsStopped : {S : Type 0} → Course S → ScriptStop → Octets → Account → Type 0
IsStopped course why line account =
    (cs : List Command) × (rest : Octets) × (out : Octets) × AreCommands course.grammar cs × IsOpen cs
    × (account.script ≡ script_text cs ++ rest)
    × IsRest course.grammar why (length cs) rest (length account.script, account.left)
    × Answers course.IsStep course.state cs out × (account.put ≡ out ++ line)

-- the sink failed: in the reply to the last command that was taken, or in the line that tells why the script stopped;
-- that is the line of a read fault only where the input failed
abbrev pub IsCutOff : {S : Type 0} → Course S → Type 0 → Account → Type 0
IsCutOff course InputFailed account =
    ((cs : List Command) × AreCommands course.grammar cs × (IsOpen cs ⊎ IsEnded cs)
    × (account.script ≡ script_text cs) × AnswersCut course.IsStep course.state cs account.put)
    ⊎ ((why : ScriptStop) × (n : ℕ) × (why ≡ stop.Fault → InputFailed) × (n < length (stopped_by why).output)
    × IsStopped course why (take n (stopped_by why).output) account)

-- what a run did, by its status
abbrev pub IsRow : {S : Type 0} → Course S → Type 0 → Status → Account → Type 0
IsRow course InputFailed Done account =
    (cs : List Command) × AreCommands course.grammar cs × IsEnded cs × (account.script ≡ script_text cs)
    × Answers course.IsStep course.state cs account.put
IsRow course InputFailed WriteFault account = IsCutOff course InputFailed account
IsRow course InputFailed status account =
    (why : ScriptStop) × (status ≡ (stopped_by why).status)
    × IsStopped course why (stopped_by why).output account

-- a read fault comes only where the input failed, a write fault only where the sink failed
abbrev pub IsCaused : Type 0 → Type 0 → Status → Type 0
IsCaused InputFailed SinkFailed ReadFault = InputFailed
IsCaused InputFailed SinkFailed WriteFault = SinkFailed
IsCaused InputFailed SinkFailed status = ⊤

-- a script was read from an input, no more of it than a script may have, and answered as its row says
abbrev pub IsScriptAnswered : {S : Type 0} → Course S → Ran → Type 0
IsScriptAnswered course ran =
    IsCaused (HasInputFailed ran) (HasSinkFailed ran) ran.status
    × IfSome ran.input_before.octets (λ whole. IfSome ran.sink_before.octets (λ held.
    (account : Account) × (whole ≡ account.script ++ account.left) × (length account.script ≤ longest_script)
    × (ran.input_after.octets ≡ Some account.left) × (ran.sink_after.octets ≡ Some (held ++ account.put))
    × IsRow course (HasInputFailed ran) ran.status account))

-- a script that ends with `end` is answered whole where neither the input nor the sink failed: only memory can be
-- refused
abbrev pub IsAnsweredWhole : Grammar → Option Octets → Type 0 → Type 0 → Status → Type 0
IsAnsweredWhole g before InputFailed SinkFailed status =
    (cs : List Command) (more : Octets) → before ≡ Some (script_text cs ++ more)
    → AreCommands g cs → IsEnded cs → length (script_text cs) ≤ longest_script
    → (InputFailed → ⊥) → (SinkFailed → ⊥) → (status ≡ Done) ⊎ (status ≡ Memory)

-- a sink has room for whatever replies these commands may get, and for the line of want of memory after them
abbrev pub HasRoomFor : {S : Type 0} → (ℕ → Type 0) → Step S → S → List Command → Type 0
HasRoomFor has_room IsStep state cs =
    (n : ℕ) × has_room n
    × ((out : Octets) → Answers IsStep state cs out → length out + length memory_refused.output ≤ n)

-- a script that ends with `end` is answered whole where the sink has room for that: only memory can be refused
abbrev pub IsAnsweredInRoom : {S : Type 0} → Course S → Option Octets → (ℕ → Type 0) → Status → Type 0
IsAnsweredInRoom course before has_room status =
    (cs : List Command) (more : Octets) → before ≡ Some (script_text cs ++ more)
    → AreCommands course.grammar cs → IsEnded cs → length (script_text cs) ≤ longest_script
    → HasRoomFor has_room course.IsStep course.state cs → (status ≡ Done) ⊎ (status ≡ Memory)
