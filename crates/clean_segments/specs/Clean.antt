-- Segments in which nothing is wrong by themselves.
use Rattle.std.specs.Prelude.{◌≡◌, ◌≤◌, List, [], length, Option, Some, All}
use Rattle.std.specs.Option.{ForSome}
use Rattle.dir_compile.specs.Directory.{Directory}
use Rattle.edi_tables.specs.Octets.{Octets}
use Rattle.seg_lexer.specs.Fields.{components_at}
use Rattle.seg_lexer.specs.Tag.{tag_of}
use Rattle.seg_lexer.specs.declared.context.Context.{Context}
use Rattle.element_check.specs.Local.{local_errors_of}
use Rattle.clean_segments.specs.declared.clean.Clean.{Clean}

-- a segment of a text that has this tag and no local error, by a directory and a context
pub record IsClean (directory : Directory) (context : Context) (text : Octets) (found : Clean) : Type 0 where
  pub ordered : found.start ≤ found.end
  pub within : found.end ≤ length text
  pub tag : tag_of (components_at context.service text found.start found.end) ≡ Some found.tag.octets
  pub errors : local_errors_of directory context (components_at context.service text found.start found.end) ≡ []

-- each that is remembered is such a segment
abbrev pub AreClean : Directory → Context → Octets → List (Option Clean) → Type 0
AreClean directory context text places = All (λ place. ForSome place (IsClean directory context text)) places
