-- What each call comes to, by the octets that it is given. Of several things that are wrong the first is answered:
-- 1. a store, text or script that is too long; 2. a fault of the store; 3. the stamp; 4. the reference; 5. the UNB.
use Rattle.std.specs.Prelude.{Bool, ◌&&◌, nat_le, length, Option, Some, None, Result, Ok, Err, if◌then◌else◌}
use Rattle.std.specs.Result.{result_map_both}
use Rattle.edi_tables.specs.Octets.{Octets}
use Rattle.edi_octets.specs.declared.octets.TheConstants.{LONGEST_TEXT}
use Rattle.dir_compile.specs.Directory.{Directory}
use Rattle.dir_store.specs.Store.{store_of}
use Rattle.error_ledger.specs.Printing.{errors_text, tree_text}
use Rattle.text_reading.specs.Errors.{errors_of}
use Rattle.text_reading.specs.Summary.{contrl_to}
use Rattle.text_reading.specs.Tree.{tree_of}
use Rattle.contrl_segments.specs.Stamp.{is_reference_of, stamp_in}
use Rattle.contrl_segments.specs.declared.stamp.Stamp.{Stamp}
use Rattle.contrl_writer.specs.declared.answer.Contrl.{Contrl}
use Rattle.contrl_writer.specs.declared.answer.Contrl.TheVariants.{Octets as Written, NoUnb, BadUnb}
use Rattle.edicheck_c.specs.Answer.{printing, refusing}
use Rattle.edicheck_c.specs.declared.answer.Answer.{Answer}
use Rattle.edicheck_c.specs.declared.code.TheConstants as code

-- octets are within the limit of a text
abbrev pub is_short : Octets → Bool
is_short octets = nat_le (length octets) LONGEST_TEXT

-- the directory that a store spells, or that it breaks a rule at a place
abbrev pub spelled : Octets → Result Directory Answer
spelled store = result_map_both (λ directory. directory) (λ at. refusing code.BAD_STORE at) (store_of store)

-- the same, unless the store or the text is too long
abbrev pub opened_by_store : Octets → Octets → Result Directory Answer
opened_by_store store text = if is_short store && is_short text then spelled store else Err (refusing code.TOO_LONG 0)

-- the same, unless the script is too long
abbrev pub opened_with_script : Octets → Octets → Octets → Result Directory Answer
opened_with_script store text script =
    if is_short script then opened_by_store store text else Err (refusing code.TOO_LONG 0)

-- what is told of a text by the directory, or the refusal in its place
abbrev pub told_by : (Directory → Answer) → Result Directory Answer → Answer
told_by told (Ok directory) = told directory
told_by told (Err refusal) = refusal

-- the printed errors of a text, by a directory
abbrev pub errors_told : Octets → Directory → Answer
errors_told text directory = printing code.DONE (errors_text (errors_of directory text))

-- the printed errors of a text, by the directory that a store spells
abbrev pub errors_answer : Octets → Octets → Answer
errors_answer store text = told_by (errors_told text) (opened_by_store store text)

-- the printed tree of a text, by a directory
abbrev pub tree_told : Octets → Directory → Answer
tree_told text directory = printing code.DONE (tree_text (tree_of directory text))

-- the printed tree of a text, by the directory that a store spells
abbrev pub tree_answer : Octets → Octets → Answer
tree_answer store text = told_by (tree_told text) (opened_by_store store text)

-- the text itself
abbrev pub text_told : Octets → Directory → Answer
text_told text directory = printing code.DONE text

-- an acknowledgement; or that the text has no UNB, or one that can't be answered
abbrev pub contrl_told : Contrl → Answer
contrl_told (Written octets) = printing code.DONE octets
contrl_told NoUnb = refusing code.NO_UNB 0
contrl_told BadUnb = refusing code.BAD_UNB 0

-- the acknowledgement of a text by a directory, with a stamp, if there is one, and a reference, if this is one
abbrev pub acknowledgement_told : Octets → Option Stamp → Octets → Directory → Answer
acknowledgement_told text None reference directory = refusing code.BAD_STAMP 0
acknowledgement_told text (Some stamp) reference directory =
    if is_reference_of reference then contrl_told (contrl_to directory text stamp reference)
    else refusing code.BAD_REFERENCE 0

-- the same with the stamp and the reference in two words
abbrev pub contrl_words_told : Octets → Octets → Octets → Directory → Answer
contrl_words_told stamp reference text directory = acknowledgement_told text (stamp_in stamp) reference directory

-- the acknowledgement of a text, by the directory that a store spells, with the stamp and the reference in two words
abbrev pub contrl_answer : Octets → Octets → Octets → Octets → Answer
contrl_answer store text stamp reference =
    told_by (acknowledgement_told text (stamp_in stamp) reference) (opened_by_store store text)
