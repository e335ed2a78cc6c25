-- Each reading is a sound walk through its table.
use Rattle.std.proofs.Common.{◌≡◌, ℕ, zero, suc, ◌+◌, ◌-◌, ◌<◌, true, List, [], ◌∷◌, ◌++◌, Option, Some, None, length, take, refl, sym, ap, subst, ◌∙◌, arith}
use Rattle.std.specs.Prelude.{Contains}
use Rattle.std.proofs.lemmas.Bool.{false≢true}
use Rattle.std.proofs.lemmas.List.{take_more, take_all}
use Rattle.std.proofs.lemmas.List.Elements.{All-filter, All-contains_itself, filter_passes}
use Rattle.std.proofs.lemmas.Option.{get_or_from_slice_get}
use Rattle.edi_tables.specs.declared.tag.Tag.{Tag}
use Rattle.edi_tables.specs.declared.table.Node.{Node}
use Rattle.edi_tables.specs.Rows.{IsTable}
use Rattle.edi_tables.specs.Walk.{tag_at, candidates_of}
use Rattle.edi_tables.specs.Placement.{last_placed, rank_of}
use Rattle.edi_tables.specs.Collisions.{are_same_tag}
use Rattle.edi_tables.specs.Extents.{tag_in}
use Rattle.edi_tables.proofs.Pushing.{last_push, last_none}
use Rattle.edi_tables.proofs.Ahead.{IsSound, sound_first, sound_none, sound_next}
use Rattle.table_walk.specs.Reading.{has_tag, tagged_candidates, IsMember, member_at, IsReading}
use Rattle.table_walk.proofs.Least.{least_has}
use Rattle.table_walk.proofs.Readings.{some_read}

-- a walk is sound at the entry placed last
abbrev pub Sound : List Node → List (Option ℕ) → Type 0
Sound nodes placed = IsSound nodes placed (last_placed placed)

-- what has a tag has one
pub tag_of : (nodes : List Node) (tag : Option Tag) (c : ℕ) (found : Option Tag) → tag_at nodes c ≡ found → has_tag nodes tag c ≡ true → (own : Tag) × (tag_at nodes c ≡ Some own)
tag_of nodes None c found is has = absurd (false≢true has)
tag_of nodes (Some tag) c None is has = absurd (false≢true (sym (ap (are_same_tag (Some tag)) is) ∙ has))
tag_of nodes (Some tag) c (Some own) is has = (own, is)

module _ (nodes : List Node) where
  -- where a segment is, it is at a candidate that has its tag
  abbrev pub Fits : List (Option ℕ) → Option Tag → ℕ → Type 0
  Fits placed tag c = Contains (candidates_of nodes (last_placed placed)) c × (has_tag nodes tag c ≡ true)

  pub member_fits : (placed : List (Option ℕ)) (tag : Option Tag) (c : ℕ) → IsMember nodes placed tag (Some c) → Fits placed tag c
  member_fits placed tag c is = (
    least_has (rank_of nodes placed) (Contains (candidates_of nodes (last_placed placed))) (tagged_candidates nodes placed tag) c
        (All-filter (has_tag nodes tag) (Contains (candidates_of nodes (last_placed placed))) (candidates_of nodes (last_placed placed)) (All-contains_itself (candidates_of nodes (last_placed placed)))) is,
    least_has (rank_of nodes placed) (λ x. has_tag nodes tag x ≡ true) (tagged_candidates nodes placed tag) c (filter_passes (has_tag nodes tag) (candidates_of nodes (last_placed placed))) is,
  )

  module _ (table : IsTable nodes) where
    -- a segment more keeps a walk sound
    pub sound_member : (placed : List (Option ℕ)) (tag : Option Tag) (member : Option ℕ) → Sound nodes placed → IsMember nodes placed tag member → Sound nodes (placed ++ member ∷ [])
    sound_member placed tag None sound is = subst (IsSound nodes (placed ++ None ∷ [])) (sym (last_none placed)) (sound_none nodes table placed (last_placed placed) sound)
    sound_member placed tag (Some c) sound is =
        let fits = member_fits placed tag c is in
        let own = tag_of nodes tag c (tag_at nodes c) refl fits.1 in
        subst (IsSound nodes (placed ++ Some c ∷ [])) (sym (last_push placed c)) (sound_next nodes table placed (last_placed placed) sound c fits.0 own.0 own.1)

    pub sound_start : Sound nodes (Some 0 ∷ [])
    sound_start = sound_first nodes table

    module _ (tags : List (Option Tag)) (placed : List (Option ℕ)) (reading : IsReading nodes tags placed) where
      sound_more : (k : ℕ) → k + 1 < length placed → Sound nodes (take (k + 1) placed) → Sound nodes (take (k + 1 + 1) placed)
      sound_more k within sound =
          subst (Sound nodes) (sym (take_more placed (k + 1) None within))
          (sound_member (take (k + 1) placed) (tag_in tags (k + 1)) (member_at placed (k + 1)) sound (reading.next k within))

      -- so is each reading, as far as it goes
      pub sound_to : (k : ℕ) → k < length placed → Sound nodes (take (k + 1) placed)
      sound_to zero within =
          subst (Sound nodes) (sym (take_more placed 0 None within ∙ ap (λ (m : Option ℕ). m ∷ []) (get_or_from_slice_get placed 0 (Some 0) None reading.first))) sound_start
      sound_to (suc k) within =
          let next : k + 1 ≡ suc k = omega arith in
          subst (λ (n : ℕ). Sound nodes (take (n + 1) placed)) next (sound_more k (omega arith) (sound_to k (omega arith)))

      pub sound_reading : Sound nodes placed
      sound_reading =
          let some = some_read nodes tags placed reading in
          subst (Sound nodes) (take_all (length placed - 1 + 1) placed (omega arith)) (sound_to (length placed - 1) (omega arith))
