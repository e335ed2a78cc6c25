-- The parts of a command's text, each with the octet that ends it.
use Rattle.std.specs.Prelude.{◌≡◌, ◌<◌, ◌≤◌, ◌+◌, ◌-◌, ◌*◌, ℕ, IsTrue, List, [], ◌∷◌, ◌++◌, length, codes, decimal}
use Rattle.std.specs.Char.{is_ascii_digit}
use Rattle.std.specs.Int.{IsInRange}
use Rattle.std.specs.List.{Contains}
use Rattle.edi_tables.specs.Octets.{Octets}
use Rattle.edi_octets.specs.Profile.{has_digits}
use Rattle.contrl_segments.specs.declared.stamp.Stamp.{Stamp}
use Rattle.contrl_segments.specs.Stamp.{IsStamp, stamp_text, is_reference_of}
use Rattle.edit_script.specs.declared.grammar.Grammar.{Grammar}
use Rattle.edit_script.specs.declared.grammar.Grammar.TheVariants.{Edit, Session}
use Rattle.edit_script.specs.declared.name.Name.{Name}
use Rattle.edit_script.specs.declared.name.Name.TheVariants.{Replace, Errors, Tree, Contrl, Text, End, Undo, Redo, Batch}
use Rattle.edi_octets.specs.declared.octets.TheConstants.{LONGEST_TEXT}

-- the names of a grammar's commands
abbrev pub names_of : Grammar → List Name
names_of Edit = Replace ∷ Errors ∷ Tree ∷ Contrl ∷ Text ∷ End ∷ []
names_of Session = Replace ∷ Errors ∷ Tree ∷ Contrl ∷ Text ∷ End ∷ Undo ∷ Redo ∷ Batch ∷ []

-- a name and the octet after it
abbrev pub name_text : Name → Octets
name_text Replace = codes "replace "
name_text Errors = codes "errors" ++ 10 ∷ []
name_text Tree = codes "tree" ++ 10 ∷ []
name_text Contrl = codes "contrl "
name_text Text = codes "text" ++ 10 ∷ []
name_text End = codes "end" ++ 10 ∷ []
name_text Undo = codes "undo" ++ 10 ∷ []
name_text Redo = codes "redo" ++ 10 ∷ []
name_text Batch = codes "batch "

-- one of these names
abbrev pub IsNameText : List Name → Name → Octets → Type 0
IsNameText names name text = Contains names name × (text ≡ name_text name)

-- a number from a least to a greatest one
abbrev pub IsNumberText : ℕ → ℕ → ℕ → ℕ → Octets → Type 0
IsNumberText least most end n text = IsInRange least most n × (text ≡ decimal n ++ end ∷ [])

-- so many digits
abbrev pub IsDigitsText : ℕ → ℕ → Octets → Octets → Type 0
IsDigitsText n end digits text = IsTrue (has_digits n digits) × (text ≡ digits ++ end ∷ [])

-- a stamp in its form, and the space after it
abbrev pub IsStampText : Stamp → Octets → Type 0
IsStampText stamp text = IsStamp stamp × (text ≡ stamp_text stamp ++ 32 ∷ [])

-- a reference in its form, and the LF after it
abbrev pub IsReferenceText : Octets → Octets → Type 0
IsReferenceText reference text = IsTrue (is_reference_of reference) × (text ≡ reference ++ 10 ∷ [])

-- so many octets
abbrev pub IsDataText : ℕ → Octets → Octets → Type 0
IsDataText size put text = (length put ≡ size) × (text ≡ put ++ 10 ∷ [])

-- the octets that `replace` puts, after their number
abbrev pub IsPutText : Octets → Octets → Type 0
IsPutText put text = (length put ≤ LONGEST_TEXT) × (text ≡ decimal (length put) ++ 10 ∷ (put ++ 10 ∷ []))

-- a number with one more digit, which isn't put after `0`
abbrev pub IsLonger : ℕ → ℕ → ℕ → Type 0
IsLonger n octet longer = (0 < n) × IsTrue (is_ascii_digit octet) × (longer ≡ n * 10 + (octet - 48))
