-- When a directory narrows another, and a text that meets no collision of a directory.
use Rattle.std.specs.Prelude.{◌≡◌, ℕ, []}
use Rattle.edi_tables.specs.Octets.{Octets}
use Rattle.edi_tables.specs.Collisions.{collisions_of}
use Rattle.edi_tables.specs.Extents.{Extent}
use Rattle.dir_compile.specs.declared.parts.Parts.{Parts}
use Rattle.dir_compile.specs.Directory.{Directory, IsDirectory, table_names}
use Rattle.guide_overlay.specs.Narrows.{Narrows}
use Rattle.segment_records.specs.Messages.{nodes_at, position_at}
use Rattle.segment_records.specs.Messages.Position.{Within}
use Rattle.segment_records.specs.Segments.{segments_of_text}
use Rattle.guide_overlay.specs.Stricter.{IsStricter}

-- a directory narrows a base: its tables have the same names and each narrows the base's, and it is no less strict on
-- segments
pub record IsNarrowed (base dir : Parts) : Type 0 where
  pub from : IsDirectory base
  pub directory : IsDirectory dir
  pub names : table_names dir ≡ table_names base
  pub tables : (table : ℕ) → (to : ℕ → ℕ) × Narrows (nodes_at base table) (nodes_at dir table) to
  pub strict : IsStricter base dir

-- the segment table of each message of a text lists no collision
abbrev pub HasNoCollision : Directory → Octets → Type 0
HasNoCollision dir text =
    (i table : ℕ) (e : Extent) → position_at dir (segments_of_text text) i ≡ Within table e
    → collisions_of (nodes_at dir table) ≡ []
