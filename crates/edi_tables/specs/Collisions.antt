-- Collisions: where a segment table can place one list of tags in two ways.
use Rattle.std.specs.Prelude.{◌+◌, ◌-◌, ℕ, Bool, true, false, not, ◌==◌, ◌&&◌, ◌||◌, nat_eq, nat_le, List, [], ◌∷◌, ◌++◌, length, map, take, filter, slice_index, Option, Some, None, if◌then◌else◌}
use Rattle.std.specs.List.{filter_map, flat_map, list_all, list_any, range_with_len}
use Rattle.std.specs.Str.{bytes_eq}
use Rattle.edi_tables.specs.declared.tag.Tag.{Tag}
use Rattle.edi_tables.specs.declared.table.Node.{Node}
use Rattle.edi_tables.specs.Walk.{tag_at, max_at, is_must_at, is_group_at, is_repeat, groups_round, candidates_of, missing_between}
use Rattle.edi_tables.specs.Filled.{is_filled}

-- going from f to c: a repeated group, or f itself, comes a second time only if its greatest count is 2 or more
abbrev pub may_come_again : List Node → ℕ → ℕ → Bool
may_come_again nodes f c =
    if is_repeat nodes f c
    then nat_le 2 (max_at nodes (c - 1))
    else (if c == f then nat_le 2 (max_at nodes f) else true)

-- a follower of f: a candidate with nothing missing; f itself and a group round f only where a second one is allowed
abbrev pub is_follower : List Node → ℕ → ℕ → Bool
is_follower nodes f c = not (is_filled (missing_between nodes f c)) && may_come_again nodes f c

-- the followers of an entry, in processing order
unfoldable pub followers_of : List Node → ℕ → List ℕ
followers_of nodes f = filter (is_follower nodes f) (candidates_of nodes f)

-- an entry e is in the front of f: f itself, or a mandatory entry before it, in groups that are mandatory or round
-- f
abbrev pub is_in_front : List Node → ℕ → ℕ → Bool
is_in_front nodes f e =
    not (is_group_at nodes e)
    && (e == f || is_must_at nodes e
    && list_all (λ g. is_must_at nodes g || list_any (nat_eq g) (groups_round nodes f)) (groups_round nodes e))

-- the front of an entry, in table order: the shortest way to it
unfoldable pub front_of : List Node → ℕ → List ℕ
front_of nodes f = filter (is_in_front nodes f) (range_with_len 0 (f + 1))

-- two entries with one tag
abbrev pub are_same_tag : Option Tag → Option Tag → Bool
are_same_tag None b = false
are_same_tag (Some a) None = false
are_same_tag (Some a) (Some b) = bytes_eq a.octets b.octets

-- two nodes have one tag; a group has none
abbrev pub have_same_tag : List Node → ℕ → ℕ → Bool
have_same_tag nodes a b = are_same_tag (tag_at nodes a) (tag_at nodes b)

-- a list of tags, and two lists of entries at which it may be placed
pub record Collision : Type 0 where
  pub tags : List Tag
  pub first : List ℕ
  pub second : List ℕ

-- the collision of two followers of f with one tag: the front of f, and then the one or the other
abbrev pub collision_of : List Node → ℕ → ℕ → ℕ → Collision
collision_of nodes f first second = record {
  tags = filter_map (tag_at nodes) (front_of nodes f ++ first ∷ []);
  first = front_of nodes f ++ first ∷ [];
  second = front_of nodes f ++ second ∷ [];
}

-- an entry and the one before it with its tag, where exactly one comes before
abbrev pub pair_with : List ℕ → ℕ → List (ℕ × ℕ)
pair_with [] second = []
pair_with (first ∷ []) second = (first, second) ∷ []
pair_with (first ∷ next ∷ more) second = []

-- the pair that the follower at a place closes
abbrev pub pair_at : List Node → List ℕ → ℕ → List (ℕ × ℕ)
pair_at nodes followers j =
    pair_with (filter (have_same_tag nodes (slice_index followers j)) (take j followers)) (slice_index followers j)

-- the first two followers of each tag that two followers share, by the place of the second of them
unfoldable pub shared_pairs : List Node → List ℕ → List (ℕ × ℕ)
shared_pairs nodes followers = flat_map (pair_at nodes followers) (range_with_len 0 (length followers))

-- the collisions after f, one for each tag that two followers share
abbrev pub collisions_after : List Node → ℕ → List Collision
collisions_after nodes f =
    map (λ pair. collision_of nodes f pair.0 pair.1) (shared_pairs nodes (followers_of nodes f))

-- the collisions of a table, by entry in table order
unfoldable pub collisions_of : List Node → List Collision
collisions_of nodes =
    flat_map (λ f. if is_group_at nodes f then [] else collisions_after nodes f) (range_with_len 0 (length nodes))
