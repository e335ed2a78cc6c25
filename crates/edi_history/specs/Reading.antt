-- What is seen of a history.
use Rattle.dir_compile.specs.Directory.{Directory}
use Rattle.edi_tables.specs.Octets.{Octets}
use Rattle.kept_text.specs.Reading.{Reading}
use Rattle.edi_history.specs.Past.{Past, edited_to}

-- the directory that its texts are checked by, and the text as it is now, with its past
pub record PastReading : Type 0 where
  pub directory : Directory
  pub past : Past

-- the reading of the text as it is now
abbrev pub present_of : PastReading → Reading
present_of history = record { directory = history.directory; text = history.past.text }

-- what is seen after an edit that makes this text
abbrev pub with_text : PastReading → Octets → PastReading
with_text before text = record { directory = before.directory; past = edited_to before.past text }
