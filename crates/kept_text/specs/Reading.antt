-- What is seen of a text that is read by a directory.
use Rattle.dir_compile.specs.Directory.{Directory}
use Rattle.edi_tables.specs.Octets.{Octets}

-- the directory that it is checked by, and the text as it is now
pub record Reading : Type 0 where
  pub directory : Directory
  pub text : Octets
