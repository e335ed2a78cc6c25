-- From where to where messages and functional groups run in a list of tags.
use Rattle.std.specs.Prelude.{◌-◌, ◌+◌, ℕ, Bool, true, false, ◌&&◌, ◌==◌, nat_le, List, [], ◌∷◌, length, find, slice_get, Option, Some, None, codes, if◌then◌else◌}
use Rattle.std.specs.List.{range_with_len, filter_map, list_any}
use Rattle.edi_tables.specs.Octets.{Octets}
use Rattle.edi_tables.specs.declared.tag.Tag.{Tag}
use Rattle.edi_tables.specs.Rows.{has_name}

-- a stretch of segments, numbered from 1, and whether its closing segment ends it
pub record Extent : Type 0 where
  pub first : ℕ
  pub last : ℕ
  pub closed : Bool

-- the tag at place i; a segment may have none
abbrev pub tag_in : List (Option Tag) → ℕ → Option Tag
tag_in tags i = elim (slice_get tags i) [ None ↦ None | Some tag ↦ tag ]

-- the first place after i whose tag has one of these names
abbrev pub next_of : List Octets → List (Option Tag) → ℕ → Option ℕ
next_of names tags i =
    find (λ j. list_any (λ name. has_name name (tag_in tags j)) names) (range_with_len (i + 1) (length tags - (i + 1)))

-- the extent that opens at place i and stops at a place: a closing segment belongs to it, any other doesn't, and
-- without one it runs to the last
abbrev pub extent_to : Octets → List (Option Tag) → ℕ → Option ℕ → Extent
extent_to closing tags i None = record { first = i + 1; last = length tags; closed = false }
extent_to closing tags i (Some j) =
    if has_name closing (tag_in tags j)
    then record { first = i + 1; last = j + 1; closed = true }
    else record { first = i + 1; last = j; closed = false }

-- the extent that the segment at place i opens, if it has the opening tag
abbrev pub extent_at : Octets → Octets → List Octets → List (Option Tag) → ℕ → Option Extent
extent_at opening closing stops tags i =
    if has_name opening (tag_in tags i) then Some (extent_to closing tags i (next_of stops tags i)) else None

-- a message runs from a UNH to the first of UNT, UNH, UNE, UNG, UNZ, UNB after it; a UNT closes it
unfoldable pub message_extents : List (Option Tag) → List Extent
message_extents tags =
    filter_map
    (extent_at (codes "UNH") (codes "UNT")
    (codes "UNT" ∷ codes "UNH" ∷ codes "UNE" ∷ codes "UNG" ∷ codes "UNZ" ∷ codes "UNB" ∷ []) tags)
    (range_with_len 0 (length tags))

-- a functional group runs from a UNG to the first of UNE, UNG, UNZ, UNB after it; a UNE closes it
unfoldable pub group_extents : List (Option Tag) → List Extent
group_extents tags =
    filter_map
    (extent_at (codes "UNG") (codes "UNE") (codes "UNE" ∷ codes "UNG" ∷ codes "UNZ" ∷ codes "UNB" ∷ []) tags)
    (range_with_len 0 (length tags))

-- the segment at place i lies in an extent
abbrev pub lies_in : ℕ → Extent → Bool
lies_in i e = nat_le e.first (i + 1) && nat_le (i + 1) e.last

-- the segment at place i closes an extent
abbrev pub closes : ℕ → Extent → Bool
closes i e = e.closed && e.last == i + 1

-- the segment at place i opens an extent
abbrev pub opens : ℕ → Extent → Bool
opens i e = e.first == i + 1

-- the message that the segment at place i lies in
unfoldable pub message_at : List (Option Tag) → ℕ → Option Extent
message_at tags i = find (lies_in i) (message_extents tags)

-- the message that the UNT at place i closes
unfoldable pub message_closed_at : List (Option Tag) → ℕ → Option Extent
message_closed_at tags i = find (closes i) (message_extents tags)

-- the functional group that the segment at place i lies in; a message is in the group that its UNH lies in
unfoldable pub group_at : List (Option Tag) → ℕ → Option Extent
group_at tags i = find (lies_in i) (group_extents tags)

-- the functional group that the UNE at place i closes
unfoldable pub group_closed_at : List (Option Tag) → ℕ → Option Extent
group_closed_at tags i = find (closes i) (group_extents tags)

-- the functional group that the UNG at place i opens
unfoldable pub group_opened_at : List (Option Tag) → ℕ → Option Extent
group_opened_at tags i = find (opens i) (group_extents tags)
