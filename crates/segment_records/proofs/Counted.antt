-- The count of the group that a segment opens, by the pairs before it.
use Rattle.std.proofs.Common.{◌≡◌, ℕ, ◌+◌, ◌-◌, Bool, true, List, [], ◌∷◌, ◌++◌, Option, Some, None, refl, sym, ap, subst, ◌∙◌, inl, inr, arith, eq-eqb}
use Rattle.std.specs.Prelude.{Contains, nat_eq, if◌then◌else◌}
use Rattle.std.specs.List.{list_any}
use Rattle.std.proofs.lemmas.Bool.{cases_Bool, eqb-true, false≢true, ne_eqb, or_left}
use Rattle.edi_tables.specs.declared.tag.Tag.{Tag}
use Rattle.edi_tables.specs.declared.table.Node.{Node}
use Rattle.edi_tables.specs.Pairs.{count_in, pairs_of}
use Rattle.edi_tables.specs.Placement.{entry_count, group_count, last_placed}
use Rattle.edi_tables.specs.Rows.{IsTable}
use Rattle.edi_tables.specs.Walk.{candidates_of, groups_round, is_group_at, is_trigger_at, is_trigger_of, parent_at}
use Rattle.edi_tables.proofs.Ahead.{round_group}
use Rattle.edi_tables.proofs.Counts.{group_grows, group_none}
use Rattle.edi_tables.proofs.Next.{group_known, other_known}
use Rattle.edi_tables.proofs.Stepping.{is_round}
use Rattle.edi_tables.proofs.Walking.{groups_round_some}
use Rattle.table_walk.specs.Reading.{IsMember}
use Rattle.table_walk.proofs.Sound.{Sound, member_fits}

module _ (nodes : List Node) (table : IsTable nodes) where
  -- a trigger is in its group, which is the node before it
  trigger_round : (c : ℕ) (parent : Option ℕ) → parent_at nodes c ≡ parent → is_trigger_of parent c ≡ true
      → (c ≡ (c - 1) + 1) × (is_round nodes c (c - 1) ≡ true)
  trigger_round c None is trigger = absurd (false≢true trigger)
  trigger_round c (Some g) is trigger =
      let here : g + 1 ≡ c = eqb-true (g + 1) c trigger in
      let back : g ≡ c - 1 = omega arith in (
        omega arith,
        ap (list_any (nat_eq (c - 1))) (groups_round_some nodes table c g is)
            ∙ or_left (nat_eq (c - 1) g) (list_any (nat_eq (c - 1)) (groups_round nodes g))
            (eq-eqb (c - 1) g (sym back)),
      )

  module _ (placed : List (Option ℕ)) (sound : Sound nodes placed) (c : ℕ)
      (found : Contains (candidates_of nodes (last_placed placed)) c) where
    abbrev f : ℕ
    f = last_placed placed

    -- the count of a group round a candidate is known by the pairs
    round_known : (g : ℕ) → is_round nodes c g ≡ true → group_count nodes placed g ≡ count_in (pairs_of nodes placed) g
    round_known g round = elim (cases_Bool (is_round nodes f g)) [
      | inl kept ↦ sym (group_known nodes table placed f refl g kept)
      | inr out ↦ group_none nodes table placed f sound c found g round out
          ∙ sym (other_known nodes table placed f refl g out
          ∙ ap (λ (b : Bool). if b then entry_count nodes placed f else 0)
          (ne_eqb f g (λ same. false≢true
          (sym sound.entry ∙ ap (is_group_at nodes) same ∙ round_group nodes table c g round))))
    ]

    opened_count : is_trigger_at nodes c ≡ true
        → group_count nodes (placed ++ Some c ∷ []) (c - 1) ≡ count_in (pairs_of nodes placed) (c - 1) + 1
    opened_count trigger =
        let round = trigger_round c (parent_at nodes c) refl trigger in
        group_grows nodes table placed c (c - 1) round.1
        ∙ ap (λ (b : Bool). group_count nodes placed (c - 1) + (if b then 1 else 0)) (eq-eqb c ((c - 1) + 1) round.0)
        ∙ ap (λ (n : ℕ). n + 1) (round_known (c - 1) round.1)

  -- the same of the segment that is read next
  pub member_count : (placed : List (Option ℕ)) → Sound nodes placed → (tag : Option Tag) (member : Option ℕ)
      → IsMember nodes placed tag member
      → (c : ℕ) → member ≡ Some c → is_trigger_at nodes c ≡ true
      → group_count nodes (placed ++ member ∷ []) (c - 1) ≡ count_in (pairs_of nodes placed) (c - 1) + 1
  member_count placed sound tag None is c same trigger = absurd (let no : ⊥ = cc in no)
  member_count placed sound tag (Some d) is c same trigger =
      let here : d ≡ c = cc in
      ap (λ (n : ℕ). group_count nodes (placed ++ Some n ∷ []) (c - 1)) here
      ∙ opened_count placed sound c
      (subst (Contains (candidates_of nodes (last_placed placed))) here (member_fits nodes placed tag d is).0) trigger
