-- What a call with a handle answers, by what the handle keeps. If several things are wrong, the first of these is
-- answered: 1. a handle that is closed; 2. a store or a text that is too long, or an edit past the end; 3. a fault
-- of the store; and the rest as without a handle.
use Rattle.std.specs.Prelude.{◌≡◌, ◌⊎◌, ℕ, Option, Some, None, Result, Ok, Err, length, if◌then◌else◌}
use Rattle.std.specs.Result.{result_map_both}
use Rattle.edi_tables.specs.Octets.{Octets}
use Rattle.dir_compile.specs.Directory.{Directory}
use Rattle.kept_text.specs.Edit.{reading_with}
use Rattle.edi_engine.specs.Edit.{stop_of}
use Rattle.edi_engine.specs.declared.edit.EditStop.{EditStop}
use Rattle.edi_engine.specs.declared.edit.EditStop.TheVariants.{Range, TooLong, Memory}
use Rattle.edicheck_c.specs.Answer.{no_memory_answer, refusing}
use Rattle.edicheck_c.specs.Told.{is_short, opened_by_store}
use Rattle.edicheck_c.specs.declared.answer.Answer.{Answer}
use Rattle.edicheck_c.specs.declared.code.TheConstants as code
use Rattle.edicheck_c.specs.declared.kept.Kept.{Kept}

-- a text, read by a directory
abbrev pub keeping : Directory → Octets → Kept
keeping directory text = record { engine = record { directory = directory; text = text } }

-- the text by the directory that a store spells, or why not
abbrev pub opened : Octets → Octets → Result Kept Answer
opened store text =
    result_map_both (λ directory. keeping directory text) (λ refusal. refusal) (opened_by_store store text)

-- the text by the directory of what a handle keeps, or why not
abbrev pub opened_beside : Option Kept → Octets → Result Kept Answer
opened_beside None text = Err (refusing code.CLOSED 0)
opened_beside (Some beside) text =
    if is_short text then Ok (keeping beside.engine.directory text) else Err (refusing code.TOO_LONG 0)

-- what is answered for an edit that isn't made
abbrev pub edit_refusal : EditStop → Answer
edit_refusal Range = refusing code.NO_RANGE 0
edit_refusal TooLong = refusing code.TOO_LONG 0
edit_refusal Memory = no_memory_answer

-- the reading that an edit makes, unless it isn't made
abbrev pub unless_stopped : Option EditStop → Kept → Result Kept Answer
unless_stopped None kept = Ok kept
unless_stopped (Some stop) kept = Err (edit_refusal stop)

-- what is kept, with octets in place of the `cut` octets of its text from a place on, or why not
abbrev pub replaced : Option Kept → ℕ → ℕ → Octets → Result Kept Answer
replaced None at cut put = Err (refusing code.CLOSED 0)
replaced (Some kept) at cut put =
    unless_stopped (stop_of kept.engine.text at cut put) (record { engine = reading_with kept.engine at cut put })

-- what a handle kept and keeps, the number after the call, and the code
pub record Changed : Type 0 where
  pub before : Option Kept
  pub after : Option Kept
  pub number : ℕ
  pub code : ℕ

-- the handle keeps what is due, and the number is the length of its text; or it keeps what it kept, and the code and
-- the number are those of the refusal
abbrev pub IsChangedTo : Result Kept Answer → Changed → Type 0
IsChangedTo (Ok due) it = (it.code ≡ code.DONE) × (it.number ≡ length due.engine.text) × (it.after ≡ Some due)
IsChangedTo (Err refusal) it =
    (it.code ≡ refusal.code) × (it.number ≡ refusal.number) × (it.after ≡ it.before)

-- so it is, or memory was refused, which may come at any time
abbrev pub IsChanged : Result Kept Answer → Changed → Type 0
IsChanged due it = IsChangedTo due it ⊎ IsChangedTo (Err no_memory_answer) it

-- what is told of the text that a handle keeps
abbrev pub told_of : (Octets → Directory → Answer) → Option Kept → Answer
told_of told None = refusing code.CLOSED 0
told_of told (Some kept) = told kept.engine.text kept.engine.directory

-- the code of a call that closes a handle
abbrev pub closing_code : Option Kept → ℕ
closing_code None = code.CLOSED
closing_code (Some kept) = code.DONE
