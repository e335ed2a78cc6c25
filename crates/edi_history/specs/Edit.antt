-- What an edit of the text of a history comes to.
use Rattle.std.specs.Prelude.{◌≡◌, ℕ, length, Option, Some, None, Result, Ok, Err}
use Rattle.edi_engine.specs.declared.edit.EditStop.{EditStop}
use Rattle.edi_engine.specs.declared.edit.EditStop.TheVariants.{Range, TooLong, Memory}
use Rattle.edi_history.specs.Reading.{PastReading}

-- what an edit comes to, by why it isn't made, if it isn't, and by what would be seen after it: that, with the length
-- of its text; or the history as it was, where the edit isn't made, or memory was refused for one that may be made
abbrev pub IsHistoryEdit
    : Option EditStop → PastReading → PastReading → PastReading → Result ℕ EditStop → Type 0
IsHistoryEdit stop edited before now (Ok n) = (stop ≡ None) × (now ≡ edited) × (n ≡ length now.past.text)
IsHistoryEdit stop edited before now (Err Range) = (stop ≡ Some Range) × (now ≡ before)
IsHistoryEdit stop edited before now (Err TooLong) = (stop ≡ Some TooLong) × (now ≡ before)
IsHistoryEdit stop edited before now (Err Memory) = (stop ≡ None) × (now ≡ before)
