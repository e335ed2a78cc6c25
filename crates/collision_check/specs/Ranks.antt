-- Small numbers of tags, and which of them were seen. Bodies and their invariants need it alone.
use Rattle.std.specs.Prelude.{◌≡◌, ◌+◌, ◌*◌, ◌%◌, ℕ, Bool, true, false, List, Option, Some, None, slice_index, slice_index_or}
use Rattle.edi_tables.specs.Octets.{Octets}
use Rattle.edi_tables.specs.declared.tag.Tag.{Tag}
use Rattle.collision_check.specs.declared.ranks.Ranks.{Ranks}

-- the octets of a tag as one number, the first of them lowest
abbrev pub tag_number : Octets → ℕ
tag_number octets = slice_index octets 0 + slice_index octets 1 * 256 + slice_index octets 2 * 65536

-- the small number of a tag
abbrev pub rank_of : Ranks → Octets → ℕ
rank_of ranks octets = slice_index ranks.places (tag_number octets % 1979) % 64

-- whether a tag's number is among those that were seen
abbrev pub is_seen : Ranks → List Bool → Tag → Bool
is_seen ranks seen tag = slice_index_or seen (rank_of ranks tag.octets) false

-- a node's tag was seen; a group has none
abbrev pub IsSeen : Ranks → List Bool → Option Tag → Type 0
IsSeen ranks seen None = Unit {0}
IsSeen ranks seen (Some tag) = is_seen ranks seen tag ≡ true

-- a node's tag was not seen; a group has none
abbrev pub IsUnseen : Ranks → List Bool → Option Tag → Type 0
IsUnseen ranks seen None = Unit {0}
IsUnseen ranks seen (Some tag) = is_seen ranks seen tag ≡ false

-- what was seen before and after a node's tag was noted, and whether it was new
pub record IsNoted (ranks : Ranks) (tag : Option Tag) (old new : List Bool) (is_new : Bool) : Type 0 where
  pub fresh : is_new ≡ true → IsUnseen ranks old tag
  pub here : IsSeen ranks new tag
  pub kept : (other : Option Tag) → IsSeen ranks old other → IsSeen ranks new other
