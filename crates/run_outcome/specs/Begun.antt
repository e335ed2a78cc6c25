-- For bodies: what a run on a directory begins with, one thing after the other, and what comes in the place of each.
use Rattle.std.specs.Prelude.{◌≡◌, ◌⊎◌, List, Option, Some, IfSome, Result, Err}
use Rattle.dir_compile.specs.Directory.{Directory}
use Rattle.edi_tables.specs.Octets.{Octets}
use Rattle.edi_ports.specs.Named.{octets_named}
use Rattle.edi_ports.specs.declared.named.Unread.{Unread}
use Rattle.edi_ports.specs.declared.shelf.ShelfFile.{ShelfFile}
use Rattle.dir_load.specs.declared.stop.Refusal.{Refusal}
use Rattle.dir_load.specs.Load.{load_of}
use Rattle.run_outcome.specs.Outcome.{Outcome, memory_refused, read_failed}
use Rattle.run_outcome.specs.Refusal.{refusal, unread}
use Rattle.edi_octets.specs.declared.octets.TheConstants.{LONGEST_TEXT}

-- what is loaded by a manifest, where the files are given
abbrev pub IsLoaded : Octets → Option (List ShelfFile) → Result Directory Refusal → Type 0
IsLoaded manifest files loaded = (told : List ShelfFile) → files ≡ Some told → load_of told manifest ≡ loaded

-- what comes in place of a directory: its refusal; or a read fault, where the shelf failed; or want of memory
abbrev pub IsUnloaded : Octets → Option (List ShelfFile) → Type 0 → Outcome → Type 0
IsUnloaded manifest files Failed due =
    ((why : Refusal) × IsLoaded manifest files (Err why) × (due ≡ refusal why))
    ⊎ ((due ≡ read_failed) × Failed) ⊎ (due ≡ memory_refused)

-- what is read under a name, where the files are given
abbrev pub IsFileRead : Octets → Option (List ShelfFile) → Result Octets Unread → Type 0
IsFileRead name files read = IfSome files (λ told. octets_named LONGEST_TEXT told name ≡ read)

-- what comes in place of a file: why there is none; or a read fault, where the shelf failed; or want of memory
abbrev pub IsFileUnread : Octets → Option (List ShelfFile) → Type 0 → Outcome → Type 0
IsFileUnread name files Failed due =
    ((why : Unread) × IsFileRead name files (Err why) × (due ≡ unread name why))
    ⊎ ((due ≡ read_failed) × Failed) ⊎ (due ≡ memory_refused)
