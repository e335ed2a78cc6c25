-- Placements: which entries of a segment table the segments of a message may be at.
use Rattle.std.specs.Prelude.{◌≡◌, ◌<◌, ◌-◌, ◌+◌, ℕ, Bool, true, not, ◌==◌, ◌&&◌, nat_eq, nat_le, List, [], length, take, drop, map, count_by, slice_get, slice_index, Contains, Option, Some, None, codes, if◌then◌else◌}
use Rattle.std.specs.List.{filter_map, after_last, suffix_len}
use Rattle.std.specs.Option.{option_eq}
use Rattle.edi_tables.specs.declared.tag.Tag.{Tag}
use Rattle.edi_tables.specs.declared.table.Node.{Node}
use Rattle.edi_tables.specs.Filled.{is_filled}
use Rattle.edi_tables.specs.Rows.{has_name}
use Rattle.edi_tables.specs.Walk.{tag_at, parent_at, max_at, is_repeat, candidates_of, missing_between, missing_past}

-- a member of a list of placements is this entry; a segment that fits nowhere is none
abbrev pub is_at : ℕ → Option ℕ → Bool
is_at entry placed = option_eq nat_eq placed (Some entry)

-- a list from its last member that passes on, and the whole where none does
abbrev pub from_last : {A : Type 0} → (A → Bool) → List A → List A
from_last passes xs = drop (length xs - suffix_len (λ x. not (passes x)) xs - 1) xs

-- the placements since the last placement of a group's trigger, that one included; outside all groups all of them
abbrev pub placed_since : Option ℕ → List (Option ℕ) → List (Option ℕ)
placed_since None placed = placed
placed_since (Some group) placed = from_last (is_at (group + 1)) placed

-- the count of an entry: its placements since the last placement of its group's trigger, that one included;
-- outside all groups since the beginning
unfoldable pub entry_count : List Node → List (Option ℕ) → ℕ → ℕ
entry_count nodes placed entry = count_by (is_at entry) (placed_since (parent_at nodes entry) placed)

-- the placements after the last placement of a group's trigger; outside all groups all of them
abbrev pub placed_after : Option ℕ → List (Option ℕ) → List (Option ℕ)
placed_after None placed = placed
placed_after (Some group) placed = after_last (is_at (group + 1)) placed

-- the count of a group: the placements of its trigger after the last placement of the trigger of the group round it;
-- outside all groups since the beginning
unfoldable pub group_count : List Node → List (Option ℕ) → ℕ → ℕ
group_count nodes placed group = count_by (is_at (group + 1)) (placed_after (parent_at nodes group) placed)

-- the entry that was placed last
abbrev pub last_placed : List (Option ℕ) → ℕ
last_placed placed = let entries = filter_map (λ p. p) placed in slice_index entries (length entries - 1)

-- going to c is one too many: c repeats a group, or is the last placed entry itself,
-- and the count has reached the greatest count
unfoldable pub is_over : List Node → List (Option ℕ) → ℕ → Bool
is_over nodes placed c =
    if is_repeat nodes (last_placed placed) c then nat_le (max_at nodes (c - 1)) (group_count nodes placed (c - 1))
    else (c == last_placed placed && nat_le (max_at nodes c) (entry_count nodes placed c))

-- the rank of a candidate: 0 where nothing is missing and it isn't over, 1 if it is over alone,
-- 2 if something is missing alone, 3 if both
unfoldable pub rank_of : List Node → List (Option ℕ) → ℕ → ℕ
rank_of nodes placed c =
    (if is_over nodes placed c then 1 else 0)
    + (if is_filled (missing_between nodes (last_placed placed) c) then 2 else 0)

-- the segments of a message may be at these entries: UNH at entry 0, and each later one at some candidate after
-- the one before, with its tag and rank 0
pub record IsPlacement (nodes : List Node) (tags : List Tag) (entries : List ℕ) : Type 0 where
  pub long : length entries ≡ length tags
  pub first : slice_get entries 0 ≡ Some 0
  pub opens : has_name (codes "UNH") (slice_get tags 0) ≡ true
  pub candidate : (k : ℕ) → k + 1 < length entries
      → Contains (candidates_of nodes (slice_index entries k)) (slice_index entries (k + 1))
  pub tag : (k : ℕ) → k + 1 < length entries
      → tag_at nodes (slice_index entries (k + 1)) ≡ slice_get tags (k + 1)
  pub rank : (k : ℕ) → k + 1 < length entries
      → rank_of nodes (map Some (take (k + 1) entries)) (slice_index entries (k + 1)) ≡ 0

-- a placement after which nothing is missing up to the table's end
pub record IsDerivation (nodes : List Node) (tags : List Tag) (entries : List ℕ) : Type 0 where
  pub placement : IsPlacement nodes tags entries
  pub complete : missing_past nodes (slice_index entries (length entries - 1)) ≡ []
