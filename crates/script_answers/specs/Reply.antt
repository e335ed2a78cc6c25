-- The replies to the commands of an edit: the written reading of the text as it is then.
use Rattle.std.specs.Prelude.{◌≡◌, ◌⊎◌, ⊤, [], ◌∷◌, ◌++◌, length, Option, Some, None, codes, decimal}
use Rattle.dir_compile.specs.Directory.{Directory}
use Rattle.edi_tables.specs.Octets.{Octets}
use Rattle.error_ledger.specs.Printing.{errors_text, tree_text}
use Rattle.contrl_writer.specs.declared.answer.Contrl.{Contrl as Acknowledgement}
use Rattle.contrl_writer.specs.declared.answer.Contrl.TheVariants.{Octets as Written, NoUnb, BadUnb}
use Rattle.edit_script.specs.declared.command.Command.{Command}
use Rattle.edit_script.specs.declared.command.Command.TheVariants.{Replace, Errors, Tree, Contrl, Text, End, Undo, Redo, Batch}
use Rattle.edi_engine.specs.Edit.{stop_of}
use Rattle.kept_text.specs.Edit.{text_with}
use Rattle.kept_text.specs.Reading.{Reading}
use Rattle.text_reading.specs.Errors.{errors_of}
use Rattle.text_reading.specs.Summary.{contrl_to}
use Rattle.text_reading.specs.Tree.{tree_of}
use Rattle.edi_engine.specs.declared.edit.EditStop.{EditStop}
use Rattle.edi_engine.specs.declared.edit.EditStop.TheVariants.{Range, TooLong, Memory}

-- a line of these octets
abbrev pub line_of : Octets → Octets
line_of words = words ++ 10 ∷ []

-- octets after a line that says how many they are, ended by LF
abbrev pub counted : Octets → Octets → Octets
counted word octets = word ++ codes " " ++ decimal (length octets) ++ 10 ∷ (octets ++ 10 ∷ [])

-- memory was refused
abbrev pub no_memory : Octets
no_memory = line_of (codes "no memory")

-- an edit that is made is reported by the length of its text; one that isn't, by why
abbrev pub edit_reply : Option EditStop → Octets → Octets
edit_reply None text = line_of (codes "ok " ++ decimal (length text))
edit_reply (Some Range) text = line_of (codes "no range")
edit_reply (Some TooLong) text = line_of (codes "no limit")
edit_reply (Some Memory) text = no_memory

-- an acknowledgement, or that there is no UNB or a bad one
abbrev pub contrl_reply : Acknowledgement → Octets
contrl_reply NoUnb = line_of (codes "no unb")
contrl_reply BadUnb = line_of (codes "bad unb")
contrl_reply (Written octets) = counted (codes "contrl") octets

-- these octets are the reply to a command of an edit on a text, by a directory
abbrev pub IsReply : Directory → Octets → Command → Octets → Type 0
IsReply dir text (Replace at cut put) reply = reply ≡ edit_reply (stop_of text at cut put) (text_with text at cut put)
IsReply dir text Errors reply = reply ≡ errors_text (errors_of dir text)
IsReply dir text Tree reply = reply ≡ tree_text (tree_of dir text)
IsReply dir text (Contrl stamp reference) reply = reply ≡ contrl_reply (contrl_to dir text stamp reference)
IsReply dir text Text reply = reply ≡ counted (codes "text") text
IsReply dir text End reply = reply ≡ line_of (codes "end")
IsReply dir text Undo reply = ⊥
IsReply dir text Redo reply = ⊥
IsReply dir text (Batch edits) reply = ⊥

-- the text that an edit leaves
abbrev pub text_left : Option EditStop → Octets → Octets → Octets
text_left None before after = after
text_left (Some stop) before after = before

-- the text that a command of an edit leaves: every one but a `replace` that is made leaves it as it is
abbrev pub text_after : Octets → Command → Octets
text_after text (Replace at cut put) = text_left (stop_of text at cut put) text (text_with text at cut put)
text_after text Errors = text
text_after text Tree = text
text_after text (Contrl stamp reference) = text
text_after text Text = text
text_after text End = text
text_after text Undo = text
text_after text Redo = text
text_after text (Batch edits) = text

-- the commands of an edit that may be answered with want of memory: a `replace` that may be made, and every other one
-- but `end`
abbrev pub MayLackMemory : Octets → Command → Type 0
MayLackMemory text (Replace at cut put) = stop_of text at cut put ≡ None
MayLackMemory text Errors = ⊤
MayLackMemory text Tree = ⊤
MayLackMemory text (Contrl stamp reference) = ⊤
MayLackMemory text Text = ⊤
MayLackMemory text End = ⊥
MayLackMemory text Undo = ⊥
MayLackMemory text Redo = ⊥
MayLackMemory text (Batch edits) = ⊥

-- one command, its reply, and the text after it: the reply is that of the text, or memory was refused and the text is
-- as it was
abbrev pub IsStep : Directory → Octets → Command → Octets → Octets → Type 0
IsStep dir text c reply after =
    (IsReply dir text c reply × (after ≡ text_after text c))
    ⊎ (MayLackMemory text c × (reply ≡ no_memory) × (after ≡ text))

-- the same of a text that is read by a directory, which stays
abbrev pub IsEditStep : Reading → Command → Octets → Reading → Type 0
IsEditStep before c reply after =
    IsStep before.directory before.text c reply after.text × (after.directory ≡ before.directory)
