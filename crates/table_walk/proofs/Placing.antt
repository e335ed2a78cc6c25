-- What one step says of the entry that it finds, and of the pairs after it.
use Rattle.std.proofs.Common.{◌≡◌, ℕ, ◌+◌, ◌<◌, ◌≤◌, true, false, List, [], ◌∷◌, ◌++◌, Option, Some, None, length, refl, sym, ap, subst, ◌∙◌, arith}
use Rattle.std.specs.Prelude.{map, reverse, ◌↔◌, filter, slice_get, count_by}
use Rattle.std.proofs.lemmas.List.Elements.{All-weaker, filter_passes}
use Rattle.edi_tables.specs.declared.tag.Tag.{Tag}
use Rattle.edi_tables.specs.declared.table.Node.{Node}
use Rattle.edi_tables.specs.Rows.{IsTable}
use Rattle.edi_tables.specs.Walk.{tag_at, parent_at, is_group_at, candidates_of, missing_past}
use Rattle.edi_tables.specs.Placement.{is_at, placed_since, entry_count, group_count, last_placed}
use Rattle.edi_tables.specs.Pairs.{pairs_of, entry_in, rank_in}
use Rattle.edi_tables.proofs.Counting.{count_push}
use Rattle.edi_tables.proofs.Placements.{tagged, first_outside}
use Rattle.edi_tables.proofs.Walking.{groups_round_none}
use Rattle.table_walk.specs.Reading.{has_tag, IsLeastOf, IsReading}
use Rattle.table_walk.specs.Steps.{IsShaped, AreCountsUpTo, member_in, pairs_after}
use Rattle.table_walk.proofs.Least.{least_of, least_has}
use Rattle.table_walk.proofs.Sound.{sound_start, sound_reading, tag_of}
use Rattle.table_walk.proofs.Onward.{entry_is, shaped, shaped_next}
use Rattle.table_walk.proofs.PairReads.{next_up_to}

module _ (nodes : List Node) (pairs : List (ℕ × ℕ)) (tag : Option Tag) where
  abbrev tagged_in : List ℕ
  tagged_in = filter (has_tag nodes tag) (candidates_of nodes (entry_in pairs))

  member_least : IsLeastOf (rank_in nodes pairs) tagged_in (member_in nodes pairs tag)
  unfolding member_in
  member_least = least_of (rank_in nodes pairs) tagged_in

  nowhere_by : (found : Option ℕ) → IsLeastOf (rank_in nodes pairs) tagged_in found → (found ≡ None) ↔ (tagged_in ≡ [])
  nowhere_by None least = (λ _. least, λ _. refl)
  nowhere_by (Some c) least = (λ same. absurd (let no : ⊥ = cc in no), λ none. absurd (subst (λ xs. IsLeastOf (rank_in nodes pairs) xs (Some c)) none least))

  -- a segment is at no entry exactly where no candidate has its tag
  pub nowhere : (found : Option ℕ) → found ≡ member_in nodes pairs tag → (found ≡ None) ↔ (tagged_in ≡ [])
  nowhere found is = nowhere_by found (subst (IsLeastOf (rank_in nodes pairs) tagged_in) (sym is) member_least)

  -- it is at an entry of the table
  pub member_entry : IsTable nodes → (c : ℕ) → Some c ≡ member_in nodes pairs tag → (is_group_at nodes c ≡ false) × (c < length nodes)
  member_entry table c is =
      let least = subst (IsLeastOf (rank_in nodes pairs) tagged_in) (sym is) member_least in
      let has = least_has (rank_in nodes pairs) (λ x. has_tag nodes tag x ≡ true) tagged_in c (filter_passes (has_tag nodes tag) (candidates_of nodes (entry_in pairs))) least in
      let own = tag_of nodes tag c (tag_at nodes c) refl has in
      tagged nodes table c own.0 (slice_get nodes c) refl own.1

  -- the pairs after it belong to the table
  pub shaped_after : IsTable nodes → (c : ℕ) → Some c ≡ member_in nodes pairs tag → IsShaped nodes (pairs_after nodes pairs (Some c))
  shaped_after table c is = let entry = member_entry table c is in shaped_next nodes pairs c entry.1 entry.0

-- a step adds one at most to each count
pub counts_after : (nodes : List Node) (pairs : List (ℕ × ℕ)) (found : Option ℕ) (most : ℕ) → AreCountsUpTo most pairs → AreCountsUpTo (most + 1) (pairs_after nodes pairs found)
counts_after nodes pairs None most all = All-weaker (λ (p : ℕ × ℕ). p.1 ≤ most) (λ (p : ℕ × ℕ). p.1 ≤ most + 1) (λ p below. omega (arith, below)) pairs all
counts_after nodes pairs (Some c) most all = next_up_to most nodes pairs c all

module _ (nodes : List Node) (table : IsTable nodes) where
  count_first : (found : Option ℕ) → found ≡ None → count_by (is_at 0) (placed_since found (Some 0 ∷ [])) ≡ 1
  count_first None is = count_push (is_at 0) [] (Some 0)
  count_first (Some g) is = absurd (let no : ⊥ = cc in no)

  entry_first : entry_count nodes (Some 0 ∷ []) 0 ≡ 1
  unfolding entry_count
  entry_first = count_first (parent_at nodes 0) (first_outside nodes table (parent_at nodes 0) refl)

  -- the pairs after UNH
  pub pairs_first : (let unh : ℕ × ℕ = (0, 1) in unh ∷ [] ≡ pairs_of nodes (Some 0 ∷ []))
  unfolding pairs_of
  pairs_first =
      sym (ap (λ (gs : List ℕ). map (λ g. let pair : ℕ × ℕ = (g, group_count nodes (Some 0 ∷ []) g) in pair) (reverse gs) ++ (let own : ℕ × ℕ = (0, entry_count nodes (Some 0 ∷ []) 0) in own) ∷ [])
      (groups_round_none nodes table 0 (first_outside nodes table (parent_at nodes 0) refl))
      ∙ ap (λ (n : ℕ). let own : ℕ × ℕ = (0, n) in own ∷ []) entry_first)

  pub shaped_first : IsShaped nodes (pairs_of nodes (Some 0 ∷ []))
  shaped_first = shaped nodes (Some 0 ∷ []) (sound_start nodes table)

  -- what is missing where a reading ends, by its pairs
  pub ends_same : (tags : List (Option Tag)) (placed : List (Option ℕ)) → IsReading nodes tags placed → (pairs : List (ℕ × ℕ)) → pairs_of nodes placed ≡ pairs → missing_past nodes (entry_in pairs) ≡ missing_past nodes (last_placed placed)
  ends_same tags placed reading pairs same =
      ap (λ (ps : List (ℕ × ℕ)). missing_past nodes (entry_in ps)) (sym same)
      ∙ ap (missing_past nodes) (entry_is nodes table placed (sound_reading nodes table tags placed reading))
