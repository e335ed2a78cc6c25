-- The numbers of a table's tags, and what is known of each tag after an entry. Bodies and their invariants need it
-- alone.
use Rattle.std.specs.Prelude.{◌≡◌, ◌<◌, ◌≤◌, ◌-◌, ℕ, Bool, true, false, not, ◌==◌, ◌&&◌, List, [], Option, Some, None, map, find, cond, length, slice_get, slice_set, unwrap_or, if◌then◌else◌}
use Rattle.std.specs.List.{range_with_len}
use Rattle.std.specs.Str.{bytes_eq}
use Rattle.edi_tables.specs.Octets.{Octets}
use Rattle.edi_tables.specs.declared.tag.Tag.{Tag}
use Rattle.edi_tables.specs.declared.table.Node.{Node}
use Rattle.edi_tables.specs.Walk.{tag_at, is_must_at, is_group_at, are_siblings}
use Rattle.edi_tables.specs.Collisions.{followers_of, shared_pairs}
use Rattle.collision_check.specs.declared.marks.Met.{Met}
use Rattle.collision_check.specs.declared.marks.Met.TheVariants.{Once, Twice}
use Rattle.collision_check.specs.declared.marks.Mark.{Mark}

-- a tag with these octets
abbrev pub has_octets : Octets → Option Tag → Bool
has_octets octets None = false
has_octets octets (Some tag) = bytes_eq octets tag.octets

-- the first of n nodes with a tag of these octets: the number of the tag
abbrev pub number_among : List Node → ℕ → Octets → Option ℕ
number_among nodes n octets = find (λ j. has_octets octets (tag_at nodes j)) (range_with_len 0 n)

-- the number of a tag; where there is no tag, there is no number
abbrev pub number_of : List Node → Option Tag → Option ℕ
number_of nodes None = None
number_of nodes (Some tag) = number_among nodes (length nodes) tag.octets

-- the number of a node's tag; a group has none
abbrev pub number_at : List Node → ℕ → Option ℕ
number_at nodes i = number_of nodes (tag_at nodes i)

-- the numbers of all nodes' tags
unfoldable pub numbers_of : List Node → List (Option ℕ)
numbers_of nodes = map (number_at nodes) (range_with_len 0 (length nodes))

-- the number of the node at a place is that of the node itself
abbrev pub is_own : ℕ → Option ℕ → Bool
is_own place None = true
is_own place (Some number) = number == place

-- what is known of a tag after one follower more with it
abbrev pub met_next : Option Met → ℕ → Met
met_next None follower = Once follower
met_next (Some met) follower = Twice

-- the only follower with a tag that was met
abbrev pub met_once : Option Met → Option ℕ
met_once None = None
met_once (Some (Once first)) = Some first
met_once (Some Twice) = None

-- what a mark says of the followers of an entry; a mark that another entry made says nothing
abbrev pub met_in : ℕ → Option Mark → Option Met
met_in entry None = None
met_in entry (Some mark) = if mark.entry == entry then Some mark.met else None

-- the mark of the tag of this number, if it has one
abbrev pub mark_at : List (Option Mark) → ℕ → Option Mark
mark_at marks n = unwrap_or (slice_get marks n) None

-- no mark says anything of the followers of an entry from this one on
abbrev pub IsFresh : ℕ → List (Option Mark) → Type 0
IsFresh from marks = (entry n : ℕ) → from ≤ entry → met_in entry (mark_at marks n) ≡ None

-- the only follower of an entry that was met with the tag of this number; a group has no number
abbrev pub only_met : ℕ → List (Option Mark) → Option ℕ → Option ℕ
only_met entry marks None = None
only_met entry marks (Some n) = met_once (met_in entry (mark_at marks n))

-- the marks after one follower more of an entry, with the tag of this number: the mark of the tag changes, and no other
abbrev pub marks_after : ℕ → ℕ → List (Option Mark) → Option ℕ → List (Option Mark)
marks_after entry follower marks None = marks
marks_after entry follower marks (Some n) =
    slice_set marks n (Some (record { entry = entry; met = met_next (met_in entry (mark_at marks n)) follower }))

-- a node's tag is numbered by the first node with it, as looked up by its octets
abbrev pub Numbers : Option Tag → ℕ → (Octets → Option ℕ) → (Octets → Option ℕ) → Option ℕ → Type 0
Numbers None i old new number = (number ≡ None) × ((octets : Octets) → new octets ≡ old octets)
Numbers (Some tag) i old new number =
    (number ≡ Some (unwrap_or (old tag.octets) i))
    × ((octets : Octets)
    → new octets ≡ cond (bytes_eq tag.octets octets) (Some (unwrap_or (old tag.octets) i)) (old octets))

-- the node before is an entry, and no two of its followers share a tag
pub record IsClear (nodes : List Node) (e : ℕ) : Type 0 where
  pub some : 0 < e
  pub entry : is_group_at nodes (e - 1) ≡ false
  pub none : shared_pairs nodes (followers_of nodes (e - 1)) ≡ []

-- an optional node beside the one before
abbrev pub goes_on : List Node → ℕ → Bool
goes_on nodes e = are_siblings nodes (e - 1) e && not (is_must_at nodes e)
