-- For bodies: what is seen of a text with its records, and what it keeps.
use Rattle.std.specs.Prelude.{◌≡◌, ◌≤◌, length}
use Rattle.dir_compile.specs.Directory.{IsDirectory}
use Rattle.seg_lexer.specs.Context.{context_of}
use Rattle.segment_records.specs.declared.mode.Mode.TheVariants.{Outside}
use Rattle.kept_text.specs.Reading.{Reading}
use Rattle.segment_records.specs.WalkedSegments.{kept_in}
use Rattle.kept_text.specs.declared.kept.KeptText.TheInside.{Inside}
use Rattle.edi_octets.specs.declared.octets.TheConstants.{LONGEST_TEXT}

-- what is seen of a kept text: the directory that it is checked by, and the text itself
abbrev pub reading : Inside → Reading
reading k = record { directory = k.directory.now; text = k.text }

-- the records are those of the text by its context, from outside of messages on
pub record IsKeptText (k : Inside) : Type 0 where
  pub directory : IsDirectory k.directory.now
  pub short : length k.text ≤ LONGEST_TEXT
  pub context : k.context ≡ context_of k.text
  pub records : k.records ≡ kept_in k.directory.now k.text
  pub outside : k.outside ≡ Outside
