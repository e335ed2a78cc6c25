-- Which word keeps words from being a command, and what is expected in its place.
use Rattle.std.specs.Prelude.{ℕ, ◌+◌, Bool, true, false, ◌||◌, List, [], ◌∷◌, Option, Some, None, is_some, codes, if◌then◌else◌}
use Rattle.std.specs.Str.{bytes_eq}
use Rattle.edi_tables.specs.Octets.{Octets}
use Rattle.edi_octets.specs.Name.{is_name_of}
use Rattle.contrl_segments.specs.Stamp.{is_reference_of, stamp_in}
use Rattle.edicheck_core.specs.Form.{number_in}
use Rattle.edicheck_core.specs.declared.wrong_word.Expected.{Expected}
use Rattle.edicheck_core.specs.declared.wrong_word.Expected.TheVariants.{Command, Manifest, Text, Reply, Guide, Stamp, Reference, Messages, Edits, Number, Nothing}
use Rattle.edicheck_core.specs.declared.wrong_word.WrongWord.{WrongWord}

-- what is expected after the word of a command, word by word; none if it is no command
abbrev pub expected_after : Octets → Option (List Expected)
expected_after word =
    if bytes_eq word (codes "--help") || bytes_eq word (codes "--version") || bytes_eq word (codes "segments")
    || bytes_eq word (codes "values") then Some []
    else (if bytes_eq word (codes "tables") || bytes_eq word (codes "compile") then Some (Manifest ∷ [])
    else (if bytes_eq word (codes "check") || bytes_eq word (codes "edit") || bytes_eq word (codes "session")
    then Some (Manifest ∷ Text ∷ [])
    else (if bytes_eq word (codes "match") then Some (Manifest ∷ Text ∷ Reply ∷ [])
    else (if bytes_eq word (codes "guide") then Some (Manifest ∷ Guide ∷ Text ∷ [])
    else (if bytes_eq word (codes "contrl") then Some (Manifest ∷ Text ∷ Stamp ∷ Reference ∷ [])
    else (if bytes_eq word (codes "drill") then Some (Messages ∷ Edits ∷ Number ∷ []) else None))))))

-- a word is as expected in its place
abbrev pub is_expected : Expected → Octets → Bool
is_expected Command word = false
is_expected Manifest word = is_name_of word
is_expected Text word = is_name_of word
is_expected Reply word = is_name_of word
is_expected Guide word = is_name_of word
is_expected Stamp word = is_some (stamp_in word)
is_expected Reference word = is_reference_of word
is_expected Messages word = is_some (number_in 1 1000 word)
is_expected Edits word = is_some (number_in 0 1000 word)
is_expected Number word = is_some (number_in 0 999999999 word)
is_expected Nothing word = false

-- the first wrong word, where the first of these is in this place: it isn't as expected, or it is missing, or it is one
-- too many
abbrev pub wrong_from : ℕ → List Expected → List Octets → Option WrongWord
wrong_from place [] [] = None
wrong_from place [] (word ∷ words) = Some (record { place = place; expected = Nothing; is_missing = false })
wrong_from place (first ∷ others) [] = Some (record { place = place; expected = first; is_missing = true })
wrong_from place (first ∷ others) (word ∷ words) =
    if is_expected first word then wrong_from (place + 1) others words
    else Some (record { place = place; expected = first; is_missing = false })

-- the first word that keeps words from being a command
abbrev pub wrong_word_of : List Octets → Option WrongWord
wrong_word_of [] = Some (record { place = 1; expected = Command; is_missing = true })
wrong_word_of (command ∷ words) =
    elim (expected_after command) [
      | None ↦ Some (record { place = 1; expected = Command; is_missing = false })
      | Some expected ↦ wrong_from 2 expected words
    ]
