-- What a run on a named text begins with, and what comes in its place.
use Rattle.std.specs.Prelude.{◌≡◌, ◌⊎◌, List, Option, Some, IfSome, Result, Ok, Err}
use Rattle.dir_compile.specs.Directory.{Directory}
use Rattle.edi_tables.specs.Octets.{Octets}
use Rattle.edi_ports.specs.Named.{octets_named}
use Rattle.edi_ports.specs.declared.named.Unread.{Unread}
use Rattle.edi_ports.specs.declared.shelf.ShelfFile.{ShelfFile}
use Rattle.dir_load.specs.declared.stop.Refusal.{Refusal}
use Rattle.dir_load.specs.Load.{load_of}
use Rattle.run_outcome.specs.Outcome.{Outcome, memory_refused, read_failed}
use Rattle.run_outcome.specs.Refusal.{refusal, unread}
use Rattle.edi_octets.specs.declared.octets.TheConstants.{LONGEST_TEXT}

-- a directory and a text
pub record Opened : Type 0 where
  pub directory : Directory
  pub text : Octets

-- the directory and the text of that name, or the refusal of one of them, the directory's first
abbrev pub opened : Octets → Result Directory Refusal → Result Octets Unread → Result Opened Outcome
opened name (Err why) read = Err (refusal why)
opened name (Ok dir) (Err why) = Err (unread name why)
opened name (Ok dir) (Ok text) = Ok (record { directory = dir; text = text })

-- what the files give of a directory by that manifest and of the text of that name
abbrev pub opened_by : Octets → Octets → List ShelfFile → Result Opened Outcome
opened_by manifest name files = opened name (load_of files manifest) (octets_named LONGEST_TEXT files name)

-- what is begun with, by the files, where they are given
abbrev pub IsOpening : Octets → Octets → Option (List ShelfFile) → Result Opened Outcome → Type 0
IsOpening manifest name files begun =
    ((loaded : Result Directory Refusal) × (read : Result Octets Unread) × (begun ≡ opened name loaded read))
    × IfSome files (λ told. begun ≡ opened_by manifest name told)

-- the files are given, and this is begun with
abbrev pub IsToldOpening : Octets → Octets → Option (List ShelfFile) → Opened → Type 0
IsToldOpening manifest name files begun =
    (told : List ShelfFile) × (files ≡ Some told) × (opened_by manifest name told ≡ Ok begun)

-- what comes in its place: the refusal of a directory or a text; or a read fault, where the shelf failed; or want of
-- memory
abbrev pub IsUnopened : Octets → Octets → Option (List ShelfFile) → Type 0 → Outcome → Type 0
IsUnopened manifest name files Failed due =
    IsOpening manifest name files (Err due) ⊎ ((due ≡ read_failed) × Failed) ⊎ (due ≡ memory_refused)
