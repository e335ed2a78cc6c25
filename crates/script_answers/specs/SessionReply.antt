-- The replies to the commands of a session: those of an edit, and what becomes of the past of the text.
use Rattle.std.specs.Prelude.{◌≡◌, ◌⊎◌, ⊤, ℕ, ◌++◌, Option, Some, None, codes, decimal, unwrap_or}
use Rattle.dir_compile.specs.Directory.{Directory}
use Rattle.edi_tables.specs.Octets.{Octets}
use Rattle.edit_script.specs.declared.command.Command.{Command}
use Rattle.edit_script.specs.declared.command.Command.TheVariants.{Replace, Errors, Tree, Contrl, Text, End, Undo, Redo, Batch}
use Rattle.edi_engine.specs.Edit.{stop_of}
use Rattle.edi_engine.specs.declared.edit.EditStop.{EditStop}
use Rattle.edi_engine.specs.declared.edit.EditStop.TheVariants.{Range, TooLong, Memory}
use Rattle.edi_history.specs.Batch.{batch_stop, text_after_batch}
use Rattle.edi_history.specs.Past.{Past, edited_to, redo_of, undo_of}
use Rattle.edi_history.specs.Reading.{PastReading}
use Rattle.kept_text.specs.Edit.{text_with}
use Rattle.script_answers.specs.Reply.{IsReply, edit_reply, line_of, no_memory}

-- a text that came back is reported by its length; where there was none, these words are the reply
abbrev pub back_reply : Octets → Option Past → Octets
back_reply words None = line_of words
back_reply words (Some past) = edit_reply None past.text

-- why an edit of a batch isn't made
abbrev pub stop_words : EditStop → Octets
stop_words Range = codes "no range "
stop_words TooLong = codes "no limit "
stop_words Memory = codes "no memory "

-- a batch that is made is reported by the length of its text; one that isn't, by the number of its first edit that
-- isn't made, and why
abbrev pub batch_reply : Option (ℕ × EditStop) → Octets → Octets
batch_reply None text = edit_reply None text
batch_reply (Some stop) text = line_of (stop_words stop.1 ++ decimal stop.0)

-- these octets are the reply to a command of a session, by a directory
abbrev pub IsSessionReply : Directory → Past → Command → Octets → Type 0
IsSessionReply dir past (Replace at cut put) reply = IsReply dir past.text (Replace at cut put) reply
IsSessionReply dir past Errors reply = IsReply dir past.text Errors reply
IsSessionReply dir past Tree reply = IsReply dir past.text Tree reply
IsSessionReply dir past (Contrl stamp reference) reply = IsReply dir past.text (Contrl stamp reference) reply
IsSessionReply dir past Text reply = IsReply dir past.text Text reply
IsSessionReply dir past End reply = IsReply dir past.text End reply
IsSessionReply dir past Undo reply = reply ≡ back_reply (codes "no undo") (undo_of past)
IsSessionReply dir past Redo reply = reply ≡ back_reply (codes "no redo") (redo_of past)
IsSessionReply dir past (Batch edits) reply =
    reply ≡ batch_reply (batch_stop past.text edits) (text_after_batch past.text edits)

-- the past after edits that make this text, unless one isn't made: then it is as it was
abbrev pub past_left : {E : Type 0} → Option E → Past → Octets → Past
past_left None past text = edited_to past text
past_left (Some stop) past text = past

-- the past that a command of a session leaves: a `replace` or a batch that is made makes a new text; `undo` and `redo`
-- go back and on, if there is a text to go to; every other command leaves the past as it is
abbrev pub past_after : Past → Command → Past
past_after past (Replace at cut put) = past_left (stop_of past.text at cut put) past (text_with past.text at cut put)
past_after past Errors = past
past_after past Tree = past
past_after past (Contrl stamp reference) = past
past_after past Text = past
past_after past End = past
past_after past Undo = unwrap_or (undo_of past) past
past_after past Redo = unwrap_or (redo_of past) past
past_after past (Batch edits) = past_left (batch_stop past.text edits) past (text_after_batch past.text edits)

-- the commands of a session that may be answered with want of memory: a `replace` and a batch that may be made, and
-- those that read the text; never `end`, `undo` and `redo`
abbrev pub MayLackMemory : Past → Command → Type 0
MayLackMemory past (Replace at cut put) = stop_of past.text at cut put ≡ None
MayLackMemory past Errors = ⊤
MayLackMemory past Tree = ⊤
MayLackMemory past (Contrl stamp reference) = ⊤
MayLackMemory past Text = ⊤
MayLackMemory past End = ⊥
MayLackMemory past Undo = ⊥
MayLackMemory past Redo = ⊥
MayLackMemory past (Batch edits) = batch_stop past.text edits ≡ None

-- one command of a session, its reply, and the past after it: the reply is that of the past, or memory was refused and
-- the past is as it was; the directory stays
abbrev pub IsSessionStep : PastReading → Command → Octets → PastReading → Type 0
IsSessionStep before c reply after =
    ((IsSessionReply before.directory before.past c reply × (after.past ≡ past_after before.past c))
    ⊎ (MayLackMemory before.past c × (reply ≡ no_memory) × (after.past ≡ before.past)))
    × (after.directory ≡ before.directory)
