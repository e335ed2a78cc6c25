-- For bodies: what is seen of a history with its versions, and what it keeps.
use Rattle.std.specs.Prelude.{◌≡◌, ◌+◌, ◌≤◌, All, List, length, map}
use Rattle.dir_compile.specs.Directory.{Directory}
use Rattle.edi_tables.specs.Octets.{Octets}
use Rattle.kept_text.specs.Reading.{Reading}
use Rattle.edi_history.specs.Reading.{PastReading}
use Rattle.edi_history.specs.declared.history.History.TheInside.{Inside}

-- the texts of versions, in their order
abbrev pub texts_of : List Reading → List Octets
texts_of versions = map (λ version. version.text) versions

-- what is seen of a history: the present version's directory and text, the texts before it, and those that were undone
abbrev pub past_reading : Inside → PastReading
past_reading h = record {
  directory = h.present.directory;
  past = record { before = texts_of h.before.items; text = h.present.text; undone = texts_of h.undone.items };
}

-- a version is read by this directory
abbrev pub IsReadBy : Directory → Reading → Type 0
IsReadBy dir version = version.directory ≡ dir

-- there is room for a hundred versions on each side, and never more than a hundred in all, each read by the directory
-- of the present one
pub record IsHistory (h : Inside) : Type 0 where
  pub before_room : h.before.capacity ≡ 100
  pub undone_room : h.undone.capacity ≡ 100
  pub few : length h.before.items + length h.undone.items ≤ 100
  pub before : All (IsReadBy h.present.directory) h.before.items
  pub undone : All (IsReadBy h.present.directory) h.undone.items
