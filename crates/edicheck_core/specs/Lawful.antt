-- For bodies: what follows of what words ask for, by `form_of`.
use Rattle.std.specs.Prelude.{⊤, IsTrue}
use Rattle.contrl_segments.specs.Stamp.{IsStamp, is_reference_of}
use Rattle.drill_maker.specs.Numbers.{IsDrill}
use Rattle.edicheck_core.specs.Form.{Asked, Question, Errors, Answer, About, Drill}

-- a stamp and a reference have their form
abbrev pub IsLawfulQuestion : Question → Type 0
IsLawfulQuestion Errors = ⊤
IsLawfulQuestion (Answer stamp reference) = IsStamp stamp × IsTrue (is_reference_of reference)

-- so has what is asked about a text, and the numbers of a drill are in their bounds
abbrev pub IsLawful : Asked → Type 0
IsLawful (About question manifest text) = IsLawfulQuestion question
IsLawful (Drill messages edits number) = IsDrill messages edits number
IsLawful _ = ⊤
