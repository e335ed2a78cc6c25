-- An edit of a text, the text that it makes, and the reading of that.
use Rattle.std.specs.Prelude.{◌+◌, ℕ, ◌++◌, take, drop}
use Rattle.edi_tables.specs.Octets.{Octets}
use Rattle.kept_text.specs.Reading.{Reading}

-- octets come in place of the `cut` octets from the place `at` on
pub record Edit : Type 0 where
  pub at : ℕ
  pub cut : ℕ
  pub put : Octets

-- the text with octets in place of the `cut` octets from a place on
abbrev pub text_with : Octets → ℕ → ℕ → Octets → Octets
text_with text at cut put = take at text ++ (put ++ drop (at + cut) text)

-- the text that an edit makes
abbrev pub edited : Octets → Edit → Octets
edited text edit = text_with text edit.at edit.cut edit.put

-- the reading with the text so edited
abbrev pub reading_with : Reading → ℕ → ℕ → Octets → Reading
reading_with before at cut put = record { directory = before.directory; text = text_with before.text at cut put }
