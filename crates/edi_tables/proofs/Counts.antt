-- How the counts of a walk change by one step.
use Rattle.std.proofs.Common.{◌≡◌, ℕ, ◌+◌, ◌<◌, true, false, cond, List, [], ◌∷◌, ◌++◌, Option, Some, None, refl, sym, ap, subst, ◌∙◌, inl, inr, ⊎_elim, arith}
use Rattle.std.specs.Prelude.{count_by, ◌==◌, Contains}
use Rattle.std.proofs.lemmas.Bool.{cases_eq, eq-eqb, ne_eqb, eqb-true, false≢true}
use Rattle.edi_tables.specs.declared.table.Node.{Node}
use Rattle.edi_tables.specs.Rows.{IsTable}
use Rattle.edi_tables.specs.Walk.{parent_at, is_group_at, is_trigger_of, is_trigger_at, candidates_of}
use Rattle.edi_tables.specs.Placement.{is_at, placed_since, placed_after, entry_count, group_count}
use Rattle.edi_tables.proofs.TableLaws.{HasTableLaws, table_laws}
use Rattle.edi_tables.proofs.Stepping.{is_round}
use Rattle.edi_tables.proofs.Reaching.{trigger_is, round_ends}
use Rattle.edi_tables.proofs.Counting.{one_if, count_push, at_itself}
use Rattle.edi_tables.proofs.Pushing.{after_no, since_yes, since_no, since_after}
use Rattle.edi_tables.proofs.Ahead.{IsSound, Goes, goes, steps, round_group, outer_round, own_round}

module _ (nodes : List Node) (table : IsTable nodes) where
  laws : HasTableLaws nodes
  laws = table_laws nodes table

  pushed_at : (x c : ℕ) (found : Option ℕ) (placed : List (Option ℕ)) → ((h : ℕ) → found ≡ Some h → c ≡ h + 1 → ⊥) → count_by (is_at x) (placed_after found (placed ++ Some c ∷ [])) ≡ count_by (is_at x) (placed_after found placed) + one_if (c == x)
  pushed_at x c None placed apart = count_push (is_at x) placed (Some c)
  pushed_at x c (Some h) placed apart =
      ap (count_by (is_at x)) (after_no (is_at (h + 1)) placed (Some c) (ne_eqb c (h + 1) (apart h refl))) ∙ count_push (is_at x) (placed_after (Some h) placed) (Some c)

  -- the count of a group round c: one more where c is its trigger
  pub group_grows : (placed : List (Option ℕ)) (c g : ℕ) → is_round nodes c g ≡ true → group_count nodes (placed ++ Some c ∷ []) g ≡ group_count nodes placed g + one_if (c == g + 1)
  unfolding group_count
  group_grows placed c g round =
      pushed_at (g + 1) c (parent_at nodes g) placed (λ h up own. omega (arith, laws.parent_before g h up, (round_ends nodes table c g round).0))

  since_grows : (c : ℕ) (found : Option ℕ) (placed : List (Option ℕ)) → is_trigger_of found c ≡ false → count_by (is_at c) (placed_since found (placed ++ Some c ∷ [])) ≡ count_by (is_at c) (placed_since found placed) + 1
  since_grows c None placed plain = count_push (is_at c) placed (Some c) ∙ ap (λ b. count_by (is_at c) placed + cond b 1 0) (at_itself c)
  since_grows c (Some h) placed plain =
      ap (count_by (is_at c)) (since_no (is_at (h + 1)) placed (Some c) (ne_eqb c (h + 1) (λ own. false≢true (sym plain ∙ eq-eqb (h + 1) c (sym own)))))
      ∙ count_push (is_at c) (placed_since (Some h) placed) (Some c) ∙ ap (λ b. count_by (is_at c) (placed_since (Some h) placed) + cond b 1 0) (at_itself c)

  -- the count of c itself: one more, and 1 where it is a trigger
  pub entry_grows : (placed : List (Option ℕ)) (c : ℕ) → is_trigger_at nodes c ≡ false → entry_count nodes (placed ++ Some c ∷ []) c ≡ entry_count nodes placed c + 1
  unfolding entry_count
  entry_grows placed c plain = since_grows c (parent_at nodes c) placed plain

  since_once : (c : ℕ) (found : Option ℕ) (placed : List (Option ℕ)) → is_trigger_of found c ≡ true → count_by (is_at c) (placed_since found (placed ++ Some c ∷ [])) ≡ 1
  since_once c None placed trigger = absurd (false≢true trigger)
  since_once c (Some h) placed trigger =
      ap (count_by (is_at c)) (since_yes (is_at (h + 1)) placed (Some c) (eq-eqb c (h + 1) (sym (eqb-true (h + 1) c trigger))))
      ∙ count_push (is_at c) [] (Some c) ∙ ap (λ b. 0 + cond b 1 0) (at_itself c)

  pub trigger_once : (placed : List (Option ℕ)) (c : ℕ) → is_trigger_at nodes c ≡ true → entry_count nodes (placed ++ Some c ∷ []) c ≡ 1
  unfolding entry_count
  trigger_once placed c trigger = since_once c (parent_at nodes c) placed trigger

  module _ (placed : List (Option ℕ)) (f : ℕ) (sound : IsSound nodes placed f) (c : ℕ) (found : Contains (candidates_of nodes f) c) where
    not_inside : (g : ℕ) → is_round nodes f g ≡ false → is_round nodes f g ≡ true → ⊥
    not_inside g out round = false≢true (sym out ∙ round)

    -- a group that a step enters is later than f
    entered : (g : ℕ) → is_round nodes c g ≡ true → is_round nodes f g ≡ false → c ≡ g + 1 → Goes nodes table f c → f < g
    entered g round out own (inl itself) = absurd (not_inside g out (subst (λ (n : ℕ). is_round nodes n g ≡ true) itself.0 round))
    entered g round out own (inr (inl later)) = elim (cases_eq f g) [
      | inl same ↦ absurd (false≢true (sym sound.entry ∙ ap (is_group_at nodes) same ∙ round_group nodes table c g round))
      | inr differ ↦ omega (arith, later.1)
    ]
    entered g round out own (inr (inr (k, is, round_f))) =
        let same : k ≡ g = omega arith in
        absurd (not_inside g out (subst (λ (n : ℕ). is_round nodes f n ≡ true) same round_f))

    -- a group round c that is not round f has not been counted
    pub group_none : (g : ℕ) → is_round nodes c g ≡ true → is_round nodes f g ≡ false → group_count nodes placed g ≡ 0
    unfolding group_count
    group_none g round out =
        let own : c ≡ g + 1 = ⊎_elim (λ kept. absurd (not_inside g out kept)) (λ trigger. trigger) (steps nodes table f c found g round) in
        let after : f < g = entered g round out own (goes nodes table f sound.within c found) in
        sound.ahead g (g + 1) after (omega arith)
        (λ h up. ⊎_elim (λ kept. kept) (λ trigger. absurd (omega (arith, laws.parent_before g h up))) (steps nodes table f c found h (outer_round nodes table c g h round up)))

    plain_later : is_trigger_at nodes c ≡ false → (c ≡ f → ⊥) → Goes nodes table f c → f < c
    plain_later plain differ (inl itself) = absurd (differ itself.0)
    plain_later plain differ (inr (inl later)) = later.1
    plain_later plain differ (inr (inr (k, is, round))) =
        absurd (false≢true (sym plain ∙ ap (is_trigger_at nodes) is ∙ trigger_is nodes table k (round_group nodes table f k round)))

    since_none : (parent : Option ℕ) → parent_at nodes c ≡ parent → is_trigger_of parent c ≡ false → count_by (is_at c) (placed_after parent placed) ≡ 0 → count_by (is_at c) (placed_since parent placed) ≡ 0
    since_none None up plain none = none
    since_none (Some h) up plain none = since_after (is_at c) (is_at (h + 1)) (λ x at. apart x at) placed ∙ none
      where
        apart : (x : Option ℕ) → is_at (h + 1) x ≡ true → is_at c x ≡ false
        apart None at = refl
        apart (Some y) at = ne_eqb y c (λ same. false≢true (sym plain ∙ eq-eqb (h + 1) c (sym (eqb-true y (h + 1) at) ∙ same)))

    -- an entry that is placed for the first time in its group has not been counted
    pub entry_none : is_trigger_at nodes c ≡ false → (c ≡ f → ⊥) → entry_count nodes placed c ≡ 0
    unfolding entry_count
    entry_none plain differ =
        let after : f < c = plain_later plain differ (goes nodes table f sound.within c found) in
        since_none (parent_at nodes c) refl plain
        (sound.ahead c c after (omega arith)
        (λ h up. ⊎_elim (λ kept. kept) (λ own. absurd (false≢true (sym plain ∙ ap (λ o. is_trigger_of o c) up ∙ eq-eqb (h + 1) c (sym own)))) (steps nodes table f c found h (own_round nodes table c h up))))
