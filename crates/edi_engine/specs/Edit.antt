-- What an edit of a text comes to.
use Rattle.std.specs.Prelude.{◌≡◌, ◌+◌, ◌-◌, ℕ, nat_lt, length, Option, Some, None, Result, Ok, Err, if◌then◌else◌}
use Rattle.edi_tables.specs.Octets.{Octets}
use Rattle.kept_text.specs.Reading.{Reading}
use Rattle.edi_engine.specs.declared.edit.EditStop.{EditStop}
use Rattle.edi_engine.specs.declared.edit.EditStop.TheVariants.{Range, TooLong, Memory}
use Rattle.edi_octets.specs.declared.octets.TheConstants.{LONGEST_TEXT}

-- why an edit isn't made, by the lengths of the text and of the octets that are put: it reaches past the end of the
-- text, or else the text would have over 4,194,304 octets
abbrev pub stop_by : ℕ → ℕ → ℕ → ℕ → Option EditStop
stop_by length at cut put =
    if nat_lt length (at + cut) then Some Range
    else (if nat_lt LONGEST_TEXT (length - cut + put) then Some TooLong else None)

-- why an edit of a text isn't made, if it isn't: octets in place of the `cut` octets from the place `at` on
abbrev pub stop_of : Octets → ℕ → ℕ → Octets → Option EditStop
stop_of text at cut put = stop_by (length text) at cut (length put)

-- what an edit comes to, by why it isn't made, if it isn't, and by the reading that it would give: that reading, with
-- the length of its text; or the reading as it was, where the edit isn't made, or memory was refused for one that may
-- be made
abbrev pub IsEdit : Option EditStop → Reading → Reading → Reading → Result ℕ EditStop → Type 0
IsEdit stop edited before now (Ok n) = (stop ≡ None) × (now ≡ edited) × (n ≡ length now.text)
IsEdit stop edited before now (Err Range) = (stop ≡ Some Range) × (now ≡ before)
IsEdit stop edited before now (Err TooLong) = (stop ≡ Some TooLong) × (now ≡ before)
IsEdit stop edited before now (Err Memory) = (stop ≡ None) × (now ≡ before)
