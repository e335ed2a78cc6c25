-- For a law: each command of a session has a reply.
use Rattle.std.specs.Prelude.{codes, refl}
use Rattle.std.proofs.Common.{inl}
use Rattle.edi_tables.specs.Octets.{Octets}
use Rattle.dir_compile.specs.Directory.{Directory}
use Rattle.edit_script.specs.Command.{IsCommand}
use Rattle.edit_script.specs.declared.command.Command.{Command}
use Rattle.edit_script.specs.declared.command.Command.TheVariants.{Replace, Errors, Tree, Contrl, Text, End, Undo, Redo, Batch}
use Rattle.edit_script.specs.declared.grammar.Grammar.TheVariants.{Session}
use Rattle.edi_history.specs.Batch.{batch_stop, text_after_batch}
use Rattle.edi_history.specs.Past.{Past, redo_of, undo_of}
use Rattle.script_answers.specs.Answers.{HasReplies}
use Rattle.script_answers.specs.EditReplies.{some_reply}
use Rattle.script_answers.specs.SessionReply.{IsSessionReply, IsSessionStep, back_reply, batch_reply, past_after}

-- the reply to a command on a past
some_session_reply : (dir : Directory) (past : Past) (c : Command) → IsCommand Session c
    → (reply : Octets) × IsSessionReply dir past c reply
some_session_reply dir past (Replace at cut put) lawful = some_reply dir past.text (Replace at cut put) lawful
some_session_reply dir past Errors lawful = some_reply dir past.text Errors lawful
some_session_reply dir past Tree lawful = some_reply dir past.text Tree lawful
some_session_reply dir past (Contrl stamp reference) lawful = some_reply dir past.text (Contrl stamp reference) lawful
some_session_reply dir past Text lawful = some_reply dir past.text Text lawful
some_session_reply dir past End lawful = some_reply dir past.text End lawful
some_session_reply dir past Undo lawful = (back_reply (codes "no undo") (undo_of past), refl)
some_session_reply dir past Redo lawful = (back_reply (codes "no redo") (redo_of past), refl)
some_session_reply dir past (Batch edits) lawful =
    (batch_reply (batch_stop past.text edits) (text_after_batch past.text edits), refl)

-- each command of a session has a reply, on whatever text and past of it
pub session_replies : HasReplies Session IsSessionStep
session_replies before c lawful =
    let told = some_session_reply before.directory before.past c lawful in
    (told.0, record { directory = before.directory; past = past_after before.past c }, (inl (told.1, refl), refl))
