-- A step of a reading is a function of the table, the pairs and the tag alone.
use Rattle.std.proofs.Common.{◌≡◌, ℕ, ◌+◌, ◌<◌, false, List, [], ◌∷◌, ◌++◌, Option, Some, None, map, length, drop, refl, sym, ap, subst, ◌∙◌, arith, append_assoc}
use Rattle.std.specs.Prelude.{filter, reverse, count_by}
use Rattle.std.proofs.lemmas.List.{append-nil, map-append}
use Rattle.edi_tables.specs.declared.tag.Tag.{Tag}
use Rattle.edi_tables.specs.declared.table.Node.{Node}
use Rattle.edi_tables.specs.Rows.{IsTable}
use Rattle.edi_tables.specs.Walk.{is_group_at, groups_round, candidates_of, missing_between}
use Rattle.edi_tables.specs.Placement.{is_at, placed_since, placed_after, entry_count, group_count, last_placed, rank_of}
use Rattle.edi_tables.specs.Pairs.{pairs_with, pairs_of, pairs_next, entry_in, rank_in}
use Rattle.edi_tables.proofs.Counting.{count_push}
use Rattle.edi_tables.proofs.Pushing.{after_no, since_no, last_none}
use Rattle.edi_tables.proofs.Next.{entry_last, entry_known, over_is, rank_is, pairs_step}
use Rattle.table_walk.specs.Reading.{has_tag, tagged_candidates, least_from, IsMember, IsReading, member_of, reading_from}
use Rattle.table_walk.specs.Errors.{missing_before, is_member_over}
use Rattle.table_walk.specs.declared.state.Placed.{Placed}
use Rattle.table_walk.specs.Steps.{IsShaped, member_in, missing_in, is_over_in, pairs_after, members_from, pairs_from, GoesOn, GoOnAlike}
use Rattle.table_walk.proofs.Least.{least_same}
use Rattle.table_walk.proofs.Readings.{member_is, reading_more}
use Rattle.table_walk.proofs.Sound.{Sound, member_fits, sound_member, sound_reading}

add_none : (n : ℕ) → n + 0 ≡ n
add_none n = omega arith

after_none : (x : ℕ) (found : Option ℕ) (placed : List (Option ℕ)) → count_by (is_at x) (placed_after found (placed ++ None ∷ [])) ≡ count_by (is_at x) (placed_after found placed)
after_none x None placed = count_push (is_at x) placed None ∙ add_none _
after_none x (Some h) placed =
    ap (count_by (is_at x)) (after_no (is_at (h + 1)) placed None refl) ∙ count_push (is_at x) (placed_after (Some h) placed) None ∙ add_none _

since_none : (x : ℕ) (found : Option ℕ) (placed : List (Option ℕ)) → count_by (is_at x) (placed_since found (placed ++ None ∷ [])) ≡ count_by (is_at x) (placed_since found placed)
since_none x None placed = count_push (is_at x) placed None ∙ add_none _
since_none x (Some h) placed =
    ap (count_by (is_at x)) (since_no (is_at (h + 1)) placed None refl) ∙ count_push (is_at x) (placed_since (Some h) placed) None ∙ add_none _

map_same : (one other : ℕ → ℕ) → ((g : ℕ) → one g ≡ other g) → (gs : List ℕ) → map (λ g. let pair : ℕ × ℕ = (g, one g) in pair) gs ≡ map (λ g. let pair : ℕ × ℕ = (g, other g) in pair) gs
map_same one other same [] = refl
map_same one other same (g ∷ gs) =
    ap (λ (n : ℕ). let pair : ℕ × ℕ = (g, n) in pair ∷ map (λ h. let p : ℕ × ℕ = (h, one h) in p) gs) (same g)
    ∙ ap (λ (more : List (ℕ × ℕ)). let pair : ℕ × ℕ = (g, other g) in pair ∷ more) (map_same one other same gs)

module _ (nodes : List Node) where
  group_stays : (placed : List (Option ℕ)) (g : ℕ) → group_count nodes (placed ++ None ∷ []) g ≡ group_count nodes placed g
  unfolding group_count
  group_stays placed g = after_none (g + 1) _ placed

  entry_stays : (placed : List (Option ℕ)) (c : ℕ) → entry_count nodes (placed ++ None ∷ []) c ≡ entry_count nodes placed c
  unfolding entry_count
  entry_stays placed c = since_none c _ placed

  -- a segment at no entry leaves the pairs
  pub pairs_stay : (placed : List (Option ℕ)) → pairs_of nodes (placed ++ None ∷ []) ≡ pairs_of nodes placed
  unfolding pairs_of
  pairs_stay placed =
      ap (λ (f : ℕ). pairs_with nodes f (group_count nodes (placed ++ None ∷ [])) (entry_count nodes (placed ++ None ∷ []) f)) (last_none placed)
      ∙ ap (λ (n : ℕ). pairs_with nodes (last_placed placed) (group_count nodes (placed ++ None ∷ [])) n) (entry_stays placed (last_placed placed))
      ∙ ap (λ (groups : List (ℕ × ℕ)). let pair : ℕ × ℕ = (last_placed placed, entry_count nodes placed (last_placed placed)) in groups ++ pair ∷ [])
      (map_same (group_count nodes (placed ++ None ∷ [])) (group_count nodes placed) (group_stays placed) (reverse (groups_round nodes (last_placed placed))))

  module _ (table : IsTable nodes) (placed : List (Option ℕ)) (sound : Sound nodes placed) where
    pub entry_is : entry_in (pairs_of nodes placed) ≡ last_placed placed
    entry_is = entry_known nodes table placed (last_placed placed) refl

    -- where the next segment is, by the pairs
    pub member_same : (tag : Option Tag) → member_of nodes placed tag ≡ member_in nodes (pairs_of nodes placed) tag
    unfolding member_in
    member_same tag =
        least_same (rank_of nodes placed) (rank_in nodes (pairs_of nodes placed)) (rank_is nodes table placed (last_placed placed) refl) None (tagged_candidates nodes placed tag)
        ∙ ap (λ (f : ℕ). least_from (rank_in nodes (pairs_of nodes placed)) None (filter (has_tag nodes tag) (candidates_of nodes f))) (sym entry_is)

    -- the pairs after a member, by the pairs before it
    pub pairs_member : (tag : Option Tag) (member : Option ℕ) → IsMember nodes placed tag member → pairs_of nodes (placed ++ member ∷ []) ≡ pairs_after nodes (pairs_of nodes placed) member
    pairs_member tag None is = pairs_stay placed
    pairs_member tag (Some c) is = pairs_step nodes table placed (last_placed placed) sound c (member_fits nodes placed tag c is).0

    pub missing_same : (member : Option ℕ) → missing_in nodes (pairs_of nodes placed) member ≡ missing_before nodes placed member
    missing_same None = refl
    missing_same (Some c) = ap (λ (f : ℕ). missing_between nodes f c) entry_is

    pub over_same : (member : Option ℕ) → is_over_in nodes (pairs_of nodes placed) member ≡ is_member_over nodes placed member
    over_same None = refl
    over_same (Some c) = sym (over_is nodes table placed (last_placed placed) refl c)

  -- from equal pairs and equal tags readings are equal onwards
  pub onward : (table : IsTable nodes) (tags : List (Option Tag)) (placed : List (Option ℕ)) → Sound nodes placed → reading_from nodes placed tags ≡ placed ++ members_from nodes (pairs_of nodes placed) tags
  onward table [] placed sound = sym (append-nil placed)
  onward table (tag ∷ tags) placed sound =
      let member : Option ℕ = member_of nodes placed tag in
      let is = member_is nodes placed tag in
      onward table tags (placed ++ member ∷ []) (sound_member nodes table placed tag member sound is)
      ∙ append_assoc placed (member ∷ []) (members_from nodes (pairs_of nodes (placed ++ member ∷ [])) tags)
      ∙ ap (λ (pairs : List (ℕ × ℕ)). placed ++ member ∷ members_from nodes pairs tags) (pairs_member table placed sound tag member is)
      ∙ ap (λ (m : Option ℕ). placed ++ m ∷ members_from nodes (pairs_after nodes (pairs_of nodes placed) m) tags) (member_same table placed sound tag)

  drop_front : {A : Type 0} (xs ys : List A) → drop (length xs) (xs ++ ys) ≡ ys
  drop_front [] ys = refl
  drop_front (x ∷ xs) ys = drop_front xs ys

  rest_is : (table : IsTable nodes) (read : List (Option Tag)) (placed : List (Option ℕ)) → IsReading nodes read placed → (tags : List (Option Tag))
      → drop (length placed) (reading_from nodes placed tags) ≡ members_from nodes (pairs_of nodes placed) tags
  rest_is table read placed reading tags =
      ap (drop (length placed)) (onward table tags placed (sound_reading nodes table read placed reading)) ∙ drop_front placed (members_from nodes (pairs_of nodes placed) tags)

  -- readings with the same pairs go on alike
  pub alike : (table : IsTable nodes) (one_tags two_tags : List (Option Tag)) (one two : List (Option ℕ)) → IsReading nodes one_tags one → IsReading nodes two_tags two → pairs_of nodes one ≡ pairs_of nodes two → GoOnAlike nodes one two
  alike table one_tags two_tags one two read_one read_two same tags =
      rest_is table one_tags one read_one tags ∙ ap (λ (pairs : List (ℕ × ℕ)). members_from nodes pairs tags) same ∙ sym (rest_is table two_tags two read_two tags)

  pub pairs_onward : (table : IsTable nodes) (tags : List (Option Tag)) (placed : List (Option ℕ)) → Sound nodes placed → pairs_of nodes (reading_from nodes placed tags) ≡ pairs_from nodes (pairs_of nodes placed) tags
  pairs_onward table [] placed sound = refl
  pairs_onward table (tag ∷ tags) placed sound =
      let member : Option ℕ = member_of nodes placed tag in
      let is = member_is nodes placed tag in
      pairs_onward table tags (placed ++ member ∷ []) (sound_member nodes table placed tag member sound is)
      ∙ ap (λ (pairs : List (ℕ × ℕ)). pairs_from nodes pairs tags) (pairs_member table placed sound tag member is)
      ∙ ap (λ (m : Option ℕ). pairs_from nodes (pairs_after nodes (pairs_of nodes placed) m) tags) (member_same table placed sound tag)

  -- pairs with an entry of the table belong to it
  fst_map : (of : ℕ → ℕ) (gs : List ℕ) → map (λ (p : ℕ × ℕ). p.0) (map (λ g. let pair : ℕ × ℕ = (g, of g) in pair) gs) ≡ gs
  fst_map of [] = refl
  fst_map of (g ∷ gs) = ap (λ more. g ∷ more) (fst_map of gs)

  shaped_with : (c : ℕ) (of : ℕ → ℕ) (n : ℕ) → c < length nodes → is_group_at nodes c ≡ false → IsShaped nodes (pairs_with nodes c of n)
  shaped_with c of n within entry =
      let pair : ℕ × ℕ = (c, n) in
      let groups : List (ℕ × ℕ) = map (λ g. let p : ℕ × ℕ = (g, of g) in p) (reverse (groups_round nodes c)) in
      let here : entry_in (groups ++ pair ∷ []) ≡ c = entry_last groups pair in
      record {
        groups =
            map-append (λ (p : ℕ × ℕ). p.0) groups (pair ∷ []) ∙ ap (λ (gs : List ℕ). gs ++ c ∷ []) (fst_map of (reverse (groups_round nodes c)))
            ∙ ap (λ (f : ℕ). reverse (groups_round nodes f) ++ f ∷ []) (sym here);
        within = subst (λ (f : ℕ). f < length nodes) (sym here) within;
        entry = ap (is_group_at nodes) here ∙ entry;
      }

  pub shaped_next : (pairs : List (ℕ × ℕ)) (c : ℕ) → c < length nodes → is_group_at nodes c ≡ false → IsShaped nodes (pairs_next nodes pairs c)
  shaped_next pairs c within entry = shaped_with c _ _ within entry

  -- those of a sound walk do
  pub shaped : (placed : List (Option ℕ)) → Sound nodes placed → IsShaped nodes (pairs_of nodes placed)
  unfolding pairs_of
  shaped placed sound = shaped_with (last_placed placed) (group_count nodes placed) (entry_count nodes placed (last_placed placed)) sound.within sound.entry

  -- a reading goes on as its pairs tell
  pub goes_on : (table : IsTable nodes) (tags : List (Option Tag)) (placed : List (Option ℕ)) → IsReading nodes tags placed → (tag : Option Tag) (pairs : List (ℕ × ℕ)) → pairs_of nodes placed ≡ pairs
      → (next : Placed) → next.entry ≡ member_in nodes pairs tag → next.missing.items ≡ missing_in nodes pairs next.entry → next.over ≡ is_over_in nodes pairs next.entry
      → next.state ≡ pairs_after nodes pairs next.entry → GoesOn nodes tags placed tag next
  goes_on table tags placed reading tag pairs same next found passed_is over_is_in after_is =
      let member = next.entry in
      let sound = sound_reading nodes table tags placed reading in
      let found_of : member_of nodes placed tag ≡ member = member_same table placed sound tag ∙ ap (λ ps. member_in nodes ps tag) same ∙ sym found in
      let is : IsMember nodes placed tag member = subst (IsMember nodes placed tag) found_of (member_is nodes placed tag) in
      record {
        reading = reading_more nodes tags placed reading tag member is;
        missing = passed_is ∙ ap (λ ps. missing_in nodes ps member) (sym same) ∙ missing_same table placed sound member;
        over = over_is_in ∙ ap (λ ps. is_over_in nodes ps member) (sym same) ∙ over_same table placed sound member;
        pairs = after_is ∙ ap (λ ps. pairs_after nodes ps member) (sym same) ∙ sym (pairs_member table placed sound tag member is);
      }
