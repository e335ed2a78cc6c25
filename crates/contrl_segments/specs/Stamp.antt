-- The stamp and the reference of an acknowledgement.
use Rattle.std.specs.Prelude.{Bool, IsTrue, ◌&&◌, ◌==◌, ◌∷◌, ◌++◌, take, drop, slice_index, Option, Some, None, if◌then◌else◌}
use Rattle.edi_tables.specs.Octets.{Octets}
use Rattle.edi_tables.specs.Forms.{is_label}
use Rattle.edi_octets.specs.Profile.{has_digits}
use Rattle.contrl_segments.specs.declared.stamp.Stamp.{Stamp}

-- a stamp is six digits of a date and four digits of a time
abbrev pub IsStamp : Stamp → Type 0
IsStamp stamp = IsTrue (has_digits 6 stamp.date) × IsTrue (has_digits 4 stamp.time)

-- the text of a stamp, `YYMMDD:HHMM`
abbrev pub stamp_text : Stamp → Octets
stamp_text stamp = stamp.date ++ 58 ∷ stamp.time

-- the stamp that a word is: six digits, a colon and four digits
abbrev pub stamp_in : Octets → Option Stamp
stamp_in word =
    if has_digits 6 (take 6 word) && slice_index word 6 == 58 && has_digits 4 (drop 7 word)
    then Some (record { date = take 6 word; time = drop 7 word })
    else None

-- a reference is 1 to 14 octets of `A` to `Z` and `0` to `9`
abbrev pub is_reference_of : Octets → Bool
is_reference_of word = is_label 14 word
