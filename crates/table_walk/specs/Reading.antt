-- The reading of a message: at which entry of a segment table each segment is, or at none.
use Rattle.std.specs.Prelude.{◌≡◌, ◌<◌, ◌≤◌, ◌+◌, ◌⊎◌, ℕ, Bool, ◌==◌, ◌&&◌, nat_lt, List, [], ◌∷◌, ◌++◌, length, take, filter, find, slice_get, slice_index_or, All, Option, Some, None, if◌then◌else◌}
use Rattle.edi_tables.specs.declared.tag.Tag.{Tag}
use Rattle.edi_tables.specs.declared.table.Node.{Node}
use Rattle.edi_tables.specs.Walk.{tag_at, candidates_of}
use Rattle.edi_tables.specs.Placement.{last_placed, rank_of}
use Rattle.edi_tables.specs.Collisions.{are_same_tag}
use Rattle.edi_tables.specs.Extents.{tag_in}

-- an entry has this tag; a segment without a tag fits nowhere
abbrev pub has_tag : List Node → Option Tag → ℕ → Bool
has_tag nodes tag c = are_same_tag tag (tag_at nodes c)

-- the candidates after the entry placed last that have this tag, in processing order
abbrev pub tagged_candidates : List Node → List (Option ℕ) → Option Tag → List ℕ
tagged_candidates nodes placed tag = filter (has_tag nodes tag) (candidates_of nodes (last_placed placed))

-- c is the member with the least rank, and the first of them
abbrev pub IsLeast : (ℕ → ℕ) → List ℕ → ℕ → Type 0
IsLeast rank [] c = ⊥
IsLeast rank (x ∷ xs) c = ((c ≡ x) × All (λ y. rank x ≤ rank y) xs) ⊎ ((rank c < rank x) × IsLeast rank xs c)

-- none where there is no member, else the first with the least rank
abbrev pub IsLeastOf : (ℕ → ℕ) → List ℕ → Option ℕ → Type 0
IsLeastOf rank xs None = xs ≡ []
IsLeastOf rank xs (Some c) = IsLeast rank xs c

-- where a segment with this tag is, after these: at the candidate with its tag and the least rank, the first of several
abbrev pub IsMember : List Node → List (Option ℕ) → Option Tag → Option ℕ → Type 0
IsMember nodes placed tag member = IsLeastOf (rank_of nodes placed) (tagged_candidates nodes placed tag) member

-- where the segment at place k is
abbrev pub member_at : List (Option ℕ) → ℕ → Option ℕ
member_at placed k = slice_index_or placed k None

-- the reading of a message with these tags: UNH is at entry 0, and each later segment where it is after those before it
pub record IsReading (nodes : List Node) (tags : List (Option Tag)) (placed : List (Option ℕ)) : Type 0 where
  pub long : length placed ≡ length tags
  pub first : slice_get placed 0 ≡ Some (Some 0)
  pub next : (k : ℕ) → k + 1 < length placed
      → IsMember nodes (take (k + 1) placed) (tag_in tags (k + 1)) (member_at placed (k + 1))

-- the better of two candidates: the later one only where its rank is less
abbrev pub better : (ℕ → ℕ) → Option ℕ → ℕ → Option ℕ
better rank None c = Some c
better rank (Some best) c = if nat_lt (rank c) (rank best) then Some c else Some best

-- the best of a list and of one before it
abbrev pub least_from : (ℕ → ℕ) → Option ℕ → List ℕ → Option ℕ
least_from rank best [] = best
least_from rank best (c ∷ more) = least_from rank (better rank best c) more

-- where a segment with this tag is, after these
abbrev pub member_of : List Node → List (Option ℕ) → Option Tag → Option ℕ
member_of nodes placed tag = least_from (rank_of nodes placed) None (tagged_candidates nodes placed tag)

-- the first candidate with this tag that has nothing missing and isn't over
abbrev pub first_free : List Node → List (Option ℕ) → Option Tag → Option ℕ
first_free nodes placed tag =
    find (λ c. has_tag nodes tag c && rank_of nodes placed c == 0) (candidates_of nodes (last_placed placed))

-- these, and where each segment with one of these tags is after them
abbrev pub reading_from : List Node → List (Option ℕ) → List (Option Tag) → List (Option ℕ)
reading_from nodes placed [] = placed
reading_from nodes placed (tag ∷ tags) = reading_from nodes (placed ++ member_of nodes placed tag ∷ []) tags

-- the one reading of a message with these tags
abbrev pub reading_of : List Node → List (Option Tag) → List (Option ℕ)
reading_of nodes [] = []
reading_of nodes (tag ∷ tags) = reading_from nodes (Some 0 ∷ []) tags
