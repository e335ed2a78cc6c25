-- The tree of a text, by a directory.
use Rattle.std.specs.Prelude.{ℕ, ◌+◌, List, map}
use Rattle.std.specs.List.{enumerate_from}
use Rattle.dir_compile.specs.Directory.{Directory}
use Rattle.edi_tables.specs.Octets.{Octets}
use Rattle.error_ledger.specs.declared.tree.TreeLine.{TreeLine}
use Rattle.segment_records.specs.Segments.{Segment, segments_of_text}
use Rattle.segment_records.specs.Places.{place_at}

-- the member of the tree for the segment at place i
abbrev pub tree_line : Directory → List Segment → ℕ × Segment → TreeLine
tree_line dir segments p = record { segment = p.0 + 1; tag = p.1.tag; place = place_at dir segments p.0 }

-- the tree of a text: one member for each segment
unfoldable pub tree_of : Directory → Octets → List TreeLine
tree_of dir text = let segments = segments_of_text text in map (tree_line dir segments) (enumerate_from 0 segments)
