-- A batch of edits: the text that they make, the first that isn't made, and what the batch comes to.
use Rattle.std.specs.Prelude.{◌≡◌, ℕ, ◌+◌, List, [], ◌∷◌, length, Option, Some, None, Result, Ok, Err}
use Rattle.edi_tables.specs.Octets.{Octets}
use Rattle.kept_text.specs.Edit.{text_with}
use Rattle.edi_engine.specs.Edit.{stop_of}
use Rattle.edi_engine.specs.declared.edit.EditStop.{EditStop}
use Rattle.edi_engine.specs.declared.edit.EditStop.TheVariants.{Range, TooLong}
use Rattle.edit_script.specs.declared.command.EditSpec.{EditSpec}
use Rattle.edi_history.specs.Reading.{PastReading}
use Rattle.edi_history.specs.declared.stop.BatchStop.{BatchStop}
use Rattle.edi_history.specs.declared.stop.BatchStop.TheVariants as batch

-- the text that an edit of a batch makes
abbrev pub text_after : Octets → EditSpec → Octets
text_after text edit = text_with text edit.at edit.cut edit.put

-- the text that a batch makes: each edit is of the text that those before it leave
abbrev pub text_after_batch : Octets → List EditSpec → Octets
text_after_batch text [] = text
text_after_batch text (edit ∷ edits) = text_after_batch (text_after text edit) edits

-- the first of these edits that isn't made, by its number, where the first has number n, and why; each is judged by the
-- length of the text that those before it leave
abbrev pub first_stop : ℕ → Octets → List EditSpec → Option (ℕ × EditStop)
first_stop n text [] = None
first_stop n text (edit ∷ edits) =
    elim (stop_of text edit.at edit.cut edit.put)
    [ Some why ↦ Some (n, why) | None ↦ first_stop (n + 1) (text_after text edit) edits ]

-- the first edit of a batch that isn't made, by its number from 1, and why
abbrev pub batch_stop : Octets → List EditSpec → Option (ℕ × EditStop)
batch_stop text edits = first_stop 1 text edits

-- what a batch comes to, by its first edit that isn't made, if there is one, and by what would be seen after all: that,
-- with the length of its text; or the history as it was, where an edit isn't made, or memory was refused for edits that
-- may all be made
abbrev pub IsBatch : Option (ℕ × EditStop) → PastReading → PastReading → PastReading → Result ℕ BatchStop → Type 0
IsBatch stop edited before now (Ok n) = (stop ≡ None) × (now ≡ edited) × (n ≡ length now.past.text)
IsBatch stop edited before now (Err (batch.Range n)) = (stop ≡ Some (n, Range)) × (now ≡ before)
IsBatch stop edited before now (Err (batch.TooLong n)) = (stop ≡ Some (n, TooLong)) × (now ≡ before)
IsBatch stop edited before now (Err batch.Memory) = (stop ≡ None) × (now ≡ before)
