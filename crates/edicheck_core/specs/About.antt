-- What a question about a text comes to, by the directory that was loaded and the octets that were read.
use Rattle.std.specs.Prelude.{◌++◌, List, [], ◌∷◌, Result, Ok, Err, codes}
use Rattle.dir_compile.specs.Directory.{Directory}
use Rattle.edi_tables.specs.Octets.{Octets}
use Rattle.dir_load.specs.declared.stop.Refusal.{Refusal}
use Rattle.edi_ports.specs.declared.named.Unread.{Unread}
use Rattle.error_ledger.specs.declared.error.ErrorLine.{ErrorLine}
use Rattle.error_ledger.specs.Printing.{errors_text, tree_text}
use Rattle.text_reading.specs.Errors.{errors_of}
use Rattle.text_reading.specs.Summary.{contrl_to}
use Rattle.text_reading.specs.Tree.{tree_of}
use Rattle.contrl_writer.specs.declared.answer.Contrl.{Contrl}
use Rattle.contrl_writer.specs.declared.answer.Contrl.TheVariants.{Octets as Written, NoUnb, BadUnb}
use Rattle.run_outcome.specs.Outcome.{Outcome, done, found}
use Rattle.run_outcome.specs.Refusal.{refusal, unread}
use Rattle.edicheck_core.specs.Form.{Question, Errors, Answer}

-- what comes next with the directory that was loaded, or the refusal
abbrev pub after_loading : (Directory → Outcome) → Result Directory Refusal → Outcome
after_loading next (Ok directory) = next directory
after_loading next (Err why) = refusal why

-- what comes next with the octets of the file of that name, or the refusal
abbrev pub after_reading : Octets → (Octets → Outcome) → Result Octets Unread → Outcome
after_reading name next (Ok octets) = next octets
after_reading name next (Err why) = unread name why

-- a text with these errors is done with, or something was found in it
abbrev pub found_if : List ErrorLine → Octets → Outcome
found_if [] output = done output
found_if (error ∷ more) output = found output

-- the errors of a text, and its tree
abbrev pub checked_text : Directory → Octets → Outcome
checked_text directory text =
    found_if (errors_of directory text) (errors_text (errors_of directory text) ++ tree_text (tree_of directory text))

-- an acknowledgement and nothing else; or the line that there is no UNB or a bad one, which was found then
abbrev pub answered : Contrl → Outcome
answered (Written octets) = done octets
answered NoUnb = found (codes "no unb" ++ 10 ∷ [])
answered BadUnb = found (codes "bad unb" ++ 10 ∷ [])

-- the answer to a question about a text
abbrev pub answer_about : Question → Directory → Octets → Outcome
answer_about Errors directory text = checked_text directory text
answer_about (Answer stamp reference) directory text = answered (contrl_to directory text stamp reference)

-- for a question about the text of that name
abbrev pub asked_about : Question → Octets → Result Directory Refusal → Result Octets Unread → Outcome
asked_about question name loaded read =
    after_loading (λ directory. after_reading name (answer_about question directory) read) loaded
