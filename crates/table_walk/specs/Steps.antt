-- One step of a reading, by the pairs alone: where the next segment is, what is wrong with that, and the pairs after
-- it.
use Rattle.std.specs.Prelude.{◌≡◌, ◌<◌, ◌≤◌, ℕ, Bool, false, List, [], ◌∷◌, ◌++◌, length, drop, map, filter, reverse, All, Option, Some, None}
use Rattle.edi_tables.specs.declared.tag.Tag.{Tag}
use Rattle.edi_tables.specs.declared.table.Node.{Node}
use Rattle.edi_tables.specs.Walk.{is_group_at, groups_round, candidates_of, missing_between}
use Rattle.edi_tables.specs.Pairs.{pairs_of, pairs_next, entry_in, over_in, rank_in}
use Rattle.table_walk.specs.Reading.{has_tag, least_from, reading_from, IsReading}
use Rattle.table_walk.specs.Errors.{missing_before, is_member_over}
use Rattle.table_walk.specs.declared.state.Placed.{Placed}

-- pairs belong to a table: they have the groups round one of its entries, outermost first, and the entry
pub record IsShaped (nodes : List Node) (pairs : List (ℕ × ℕ)) : Type 0 where
  pub groups : map (λ p. p.0) pairs ≡ reverse (groups_round nodes (entry_in pairs)) ++ entry_in pairs ∷ []
  pub within : entry_in pairs < length nodes
  pub entry : is_group_at nodes (entry_in pairs) ≡ false

-- no count is greater
abbrev pub AreCountsUpTo : ℕ → List (ℕ × ℕ) → Type 0
AreCountsUpTo most pairs = All (λ pair. pair.1 ≤ most) pairs

-- the candidates that have this tag, in processing order
abbrev pub tagged_in : List Node → List (ℕ × ℕ) → Option Tag → List ℕ
tagged_in nodes pairs tag = filter (has_tag nodes tag) (candidates_of nodes (entry_in pairs))

-- where a segment with this tag is
unfoldable pub member_in : List Node → List (ℕ × ℕ) → Option Tag → Option ℕ
member_in nodes pairs tag = least_from (rank_in nodes pairs) None (tagged_in nodes pairs tag)

-- the mandatory nodes that going to a member passes
abbrev pub missing_in : List Node → List (ℕ × ℕ) → Option ℕ → List ℕ
missing_in nodes pairs None = []
missing_in nodes pairs (Some c) = missing_between nodes (entry_in pairs) c

-- whether a member is one too many
abbrev pub is_over_in : List Node → List (ℕ × ℕ) → Option ℕ → Bool
is_over_in nodes pairs None = false
is_over_in nodes pairs (Some c) = over_in nodes pairs c

-- the pairs after a member; a segment at no entry leaves them
abbrev pub pairs_after : List Node → List (ℕ × ℕ) → Option ℕ → List (ℕ × ℕ)
pairs_after nodes pairs None = pairs
pairs_after nodes pairs (Some c) = pairs_next nodes pairs c

-- where segments with these tags are, one after the other
abbrev pub members_from : List Node → List (ℕ × ℕ) → List (Option Tag) → List (Option ℕ)
members_from nodes pairs [] = []
members_from nodes pairs (tag ∷ tags) =
    member_in nodes pairs tag ∷ members_from nodes (pairs_after nodes pairs (member_in nodes pairs tag)) tags

-- the pairs after segments with these tags
abbrev pub pairs_from : List Node → List (ℕ × ℕ) → List (Option Tag) → List (ℕ × ℕ)
pairs_from nodes pairs [] = pairs
pairs_from nodes pairs (tag ∷ tags) = pairs_from nodes (pairs_after nodes pairs (member_in nodes pairs tag)) tags

-- two readings go on alike: after both, segments with the same tags are at the same entries
abbrev pub GoOnAlike : List Node → List (Option ℕ) → List (Option ℕ) → Type 0
GoOnAlike nodes one two = (tags : List (Option Tag))
    → drop (length one) (reading_from nodes one tags) ≡ drop (length two) (reading_from nodes two tags)

-- a reading goes on with one segment more: where it is, what is missing before it, whether it is over, and the pairs
-- after it
pub record GoesOn (nodes : List Node) (tags : List (Option Tag)) (placed : List (Option ℕ)) (tag : Option Tag)
    (next : Placed) : Type 0 where
  pub reading : IsReading nodes (tags ++ tag ∷ []) (placed ++ next.entry ∷ [])
  pub missing : next.missing.items ≡ missing_before nodes placed next.entry
  pub over : next.over ≡ is_member_over nodes placed next.entry
  pub pairs : next.state ≡ pairs_of nodes (placed ++ next.entry ∷ [])
