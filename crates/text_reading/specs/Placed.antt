-- Where a tree places the segments of messages.
use Rattle.std.specs.Prelude.{◌≡◌, ◌<◌, ◌+◌, ◌-◌, ℕ, Bool, List, [], length, map, take, slice_get, slice_range, Option, Some, None}
use Rattle.dir_compile.specs.Directory.{Directory}
use Rattle.edi_tables.specs.Octets.{Octets}
use Rattle.edi_tables.specs.declared.table.Node.{Node}
use Rattle.edi_tables.specs.declared.tag.Tag.{Tag}
use Rattle.edi_tables.specs.Collisions.{collisions_of}
use Rattle.edi_tables.specs.Extents.{Extent, tag_in}
use Rattle.edi_tables.specs.Placement.{IsDerivation}
use Rattle.error_ledger.specs.declared.tree.TreeLine.{TreeLine}
use Rattle.error_ledger.specs.declared.tree.TreePlace.{TreePlace}
use Rattle.error_ledger.specs.declared.tree.TreePlace.TheVariants.{Placed}
use Rattle.table_walk.specs.Errors.{faults_at, structure_errors_of}
use Rattle.table_walk.specs.Reading.{first_free, member_at}
use Rattle.segment_records.specs.Segments.{segments_of_text}
use Rattle.segment_records.specs.Messages.{nodes_at, position_at, tags_of_message}
use Rattle.segment_records.specs.Messages.Position.{Within}
use Rattle.text_reading.specs.Tree.{tree_of}

-- the entry that a member of a tree shows, if it shows one
abbrev pub entry_shown : TreePlace → Option ℕ
entry_shown (Placed entry depth opens) = Some entry
entry_shown _ = None

-- the entries that a tree shows for the segments of a message
abbrev pub entries_shown : List TreeLine → Extent → List (Option ℕ)
entries_shown tree e = map (λ line. entry_shown line.place) (slice_range tree (e.first - 1) e.last)

-- UNH is at entry 0, and a later segment that is placed without a structure error of its placement is at the first
-- candidate with its tag that has nothing missing and isn't over
pub record IsFirstPlaced (nodes : List Node) (tags : List (Option Tag)) (shown : List (Option ℕ)) : Type 0 where
  pub opening : slice_get shown 0 ≡ Some (Some 0)
  pub later : (k : ℕ) → k + 1 < length shown → faults_at nodes shown (k + 1) ≡ []
      → member_at shown (k + 1) ≡ first_free nodes (take (k + 1) shown) (tag_in tags (k + 1))

-- where the table lists no collision, a derivation of the tags is what is shown, and nothing is wrong in the structure
-- of the message
abbrev pub IsOnlyDerivation : List Node → List (Option Tag) → List (Option ℕ) → Type 0
IsOnlyDerivation nodes tags shown =
    collisions_of nodes ≡ [] → (names : List Tag) (entries : List ℕ) → map Some names ≡ tags
    → IsDerivation nodes names entries
    → (shown ≡ map Some entries) × ((closed : Bool) → structure_errors_of nodes tags closed ≡ [])

-- both hold of what is shown for a message with this table
abbrev pub IsMessagePlaced : List Node → List (Option Tag) → List (Option ℕ) → Type 0
IsMessagePlaced nodes tags shown = IsFirstPlaced nodes tags shown × IsOnlyDerivation nodes tags shown

-- the tree of a text places the segments of each message with a table so: of the message that any segment of the text
-- lies in
abbrev pub AreMessagesPlaced : Directory → Octets → Type 0
AreMessagesPlaced dir text =
    (i table : ℕ) (e : Extent) → position_at dir (segments_of_text text) i ≡ Within table e
    → IsMessagePlaced (nodes_at dir table) (tags_of_message (segments_of_text text) e)
    (entries_shown (tree_of dir text) e)
