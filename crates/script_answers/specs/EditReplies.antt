-- For a law: each command of an edit has a reply.
use Rattle.std.specs.Prelude.{codes, refl}
use Rattle.std.proofs.Common.{inl}
use Rattle.edi_tables.specs.Octets.{Octets}
use Rattle.dir_compile.specs.Directory.{Directory}
use Rattle.error_ledger.specs.Printing.{errors_text, tree_text}
use Rattle.edit_script.specs.Command.{IsCommand}
use Rattle.edit_script.specs.declared.command.Command.{Command}
use Rattle.edit_script.specs.declared.command.Command.TheVariants.{Replace, Errors, Tree, Contrl, Text, End, Undo, Redo, Batch}
use Rattle.edit_script.specs.declared.grammar.Grammar.TheVariants.{Edit}
use Rattle.edi_engine.specs.Edit.{stop_of}
use Rattle.kept_text.specs.Edit.{text_with}
use Rattle.text_reading.specs.Errors.{errors_of}
use Rattle.text_reading.specs.Summary.{contrl_to}
use Rattle.text_reading.specs.Tree.{tree_of}
use Rattle.script_answers.specs.Answers.{HasReplies}
use Rattle.script_answers.specs.Reply.{IsEditStep, IsReply, contrl_reply, counted, edit_reply, line_of, text_after}

-- the reply to a command on a text
pub some_reply : (dir : Directory) (text : Octets) (c : Command) → IsCommand Edit c
    → (reply : Octets) × IsReply dir text c reply
some_reply dir text (Replace at cut put) lawful =
    (edit_reply (stop_of text at cut put) (text_with text at cut put), refl)
some_reply dir text Errors lawful = (errors_text (errors_of dir text), refl)
some_reply dir text Tree lawful = (tree_text (tree_of dir text), refl)
some_reply dir text (Contrl stamp reference) lawful = (contrl_reply (contrl_to dir text stamp reference), refl)
some_reply dir text Text lawful = (counted (codes "text") text, refl)
some_reply dir text End lawful = (line_of (codes "end"), refl)
some_reply dir text Undo lawful = absurd lawful
some_reply dir text Redo lawful = absurd lawful
some_reply dir text (Batch edits) lawful = absurd lawful

-- each command of an edit has a reply, on whatever text
pub edit_replies : HasReplies Edit IsEditStep
edit_replies before c lawful =
    let told = some_reply before.directory before.text c lawful in
    (told.0, record { directory = before.directory; text = text_after before.text c }, (inl (told.1, refl), refl))
