-- A walk through a table: nothing that comes later on a level that is left later has been counted, so counts change by one step alone.
use Rattle.std.proofs.Common.{◌≡◌, ℕ, zero, suc, ◌+◌, ◌<◌, ◌≤◌, true, false, cond, List, [], ◌∷◌, ◌++◌, Option, Some, None, length, refl, sym, ap, subst, ◌∙◌, ◌⊎◌, inl, inr, ⊎_elim, arith}
use Rattle.std.specs.Prelude.{count_by, slice_get, nat_eq, Contains}
use Rattle.std.specs.List.{All}
use Rattle.std.proofs.lemmas.Bool.{cond_both, cases_eq, cases_lt, eq-eqb, ne_eqb, eqb-true, or_left, or_cases, false≢true}
use Rattle.std.proofs.lemmas.List.Elements.{All-nil, All-cons, All-append, All-weaker, All-contains}
use Rattle.edi_tables.specs.declared.tag.Tag.{Tag}
use Rattle.edi_tables.specs.declared.table.Node.{Node}
use Rattle.edi_tables.specs.Rows.{IsTable}
use Rattle.edi_tables.specs.Walk.{tag_at, parent_at, end_at, is_group_at, is_trigger_at, groups_round, outward, itself, candidates_of}
use Rattle.edi_tables.specs.Placement.{is_at, placed_after, last_placed}
use Rattle.edi_tables.proofs.TableLaws.{HasTableLaws, table_laws}
use Rattle.edi_tables.proofs.Stepping.{is_round, Steps, round_none, round_some, parent_of_round, candidates_step_so}
use Rattle.edi_tables.proofs.Reaching.{round_ends, inner_round}
use Rattle.edi_tables.proofs.Distinct.{IsLater, level, level_later}
use Rattle.edi_tables.proofs.Counting.{count_push}
use Rattle.edi_tables.proofs.Placements.{tagged}
use Rattle.edi_tables.proofs.Pushing.{after_yes, after_no, last_push, last_none}

-- a node that is later than f, in no group or in one round f, has not been placed since the last trigger of its group
abbrev pub Ahead : List Node → List (Option ℕ) → ℕ → Type 0
Ahead nodes placed f = (j x : ℕ) → f < j → j ≤ x → ((h : ℕ) → parent_at nodes j ≡ Some h → is_round nodes f h ≡ true)
    → count_by (is_at x) (placed_after (parent_at nodes j) placed) ≡ 0

-- f is an entry of the table, it was placed last, and nothing is ahead of it
pub record IsSound (nodes : List Node) (placed : List (Option ℕ)) (f : ℕ) : Type 0 where
  pub last : last_placed placed ≡ f
  pub within : f < length nodes
  pub entry : is_group_at nodes f ≡ false
  pub ahead : Ahead nodes placed f

some_same : (g h : ℕ) → Some g ≡ Some h → g ≡ h
some_same g h same = cc

none_some : (g : ℕ) → None ≡ Some g → ⊥
none_some g same = cc

not_at : (x c : ℕ) → (c ≡ x → ⊥) → is_at x (Some c) ≡ false
not_at x c differ = ne_eqb c x differ

add_none : (n : ℕ) → n + 0 ≡ n
add_none n = omega arith

module _ (nodes : List Node) (table : IsTable nodes) where
  laws : HasTableLaws nodes
  laws = table_laws nodes table

  -- a group round a node is a group of the table
  group_by : (n i g : ℕ) (found : Option ℕ) → parent_at nodes i ≡ found → i ≤ n → is_round nodes i g ≡ true → is_group_at nodes g ≡ true
  group_by n i g None is fuel round = absurd (false≢true (sym (round_none nodes table i g is) ∙ round))
  group_by zero i g (Some h) is fuel round = absurd (omega (arith, laws.parent_before i h is))
  group_by (suc n) i g (Some h) is fuel round = ⊎_elim
      (λ same. let here : g ≡ h = eqb-true g h same in let group : is_group_at nodes h ≡ true = laws.parent_is_group i h is in ap (is_group_at nodes) here ∙ group)
      (λ further. group_by n h g (parent_at nodes h) refl (omega (arith, laws.parent_before i h is)) further)
      (or_cases (nat_eq g h) (is_round nodes h g) (sym (round_some nodes table i h g is) ∙ round))

  pub round_group : (i g : ℕ) → is_round nodes i g ≡ true → is_group_at nodes g ≡ true
  round_group i g round = group_by i i g (parent_at nodes i) refl (omega arith) round

  -- the group round a group round a node is round the node
  pub outer_round : (c g h : ℕ) → is_round nodes c g ≡ true → parent_at nodes g ≡ Some h → is_round nodes c h ≡ true
  outer_round c g h round up = inner_round nodes table c g h round (parent_round g h up)
    where
      parent_round : (g h : ℕ) → parent_at nodes g ≡ Some h → is_round nodes g h ≡ true
      parent_round g h up = round_some nodes table g h h up ∙ or_left (nat_eq h h) (is_round nodes h h) (eq-eqb h h refl)

  pub own_round : (i h : ℕ) → parent_at nodes i ≡ Some h → is_round nodes i h ≡ true
  own_round i h up = round_some nodes table i h h up ∙ or_left (nat_eq h h) (is_round nodes h h) (eq-eqb h h refl)

  module _ (f : ℕ) where
    -- where a candidate of f is: f itself, or after the end of f, or the trigger of a group round f
    abbrev pub Goes : ℕ → Type 0
    Goes c = ((c ≡ f) × (is_trigger_at nodes f ≡ false)) ⊎ (((end_at nodes f ≤ c) × (f < c)) ⊎ ((k : ℕ) × (c ≡ k + 1) × (is_round nodes f k ≡ true)))

    goes_outward : (groups : List ℕ) (i : ℕ) → groups ≡ groups_round nodes i → (end_at nodes f ≤ end_at nodes i) → f < length nodes → ((g : ℕ) → is_round nodes i g ≡ true → is_round nodes f g ≡ true) → All Goes (outward nodes i groups)
    goes_outward [] i is ends within outer =
        All-weaker (IsLater nodes table i) Goes (λ x later. inr (inl (omega (arith, later.0), omega (arith, later.0, laws.end_after f within)))) (level nodes table i) (level_later nodes table i)
    goes_outward (g ∷ groups) i is ends within outer =
        let up = parent_of_round nodes table i g groups (parent_at nodes i) refl is in
        All-append Goes (level nodes table i) ((g + 1) ∷ outward nodes g groups)
        (All-weaker (IsLater nodes table i) Goes (λ x later. inr (inl (omega (arith, later.0), omega (arith, later.0, laws.end_after f within)))) (level nodes table i) (level_later nodes table i))
        (All-cons Goes (g + 1) (outward nodes g groups) (inr (inr (g, refl, outer g (own_round i g up.0))))
        (goes_outward groups g up.1 (omega (arith, laws.end_in_parent i g up.0)) within (λ h round. outer h (inner_round nodes table i g h (own_round i g up.0) round))))

    pub goes_all : f < length nodes → All Goes (candidates_of nodes f)
    unfolding candidates_of
    goes_all within =
        All-append Goes (itself nodes f) (outward nodes f (groups_round nodes f))
        (cond_both (is_trigger_at nodes f) [] (f ∷ []) (All Goes) (λ _. All-nil Goes) (λ plain. All-cons Goes f [] (inl (refl, plain)) (All-nil Goes)))
        (goes_outward (groups_round nodes f) f refl (omega arith) within (λ g round. round))

    pub goes : f < length nodes → (c : ℕ) → Contains (candidates_of nodes f) c → Goes c
    goes within c found = All-contains Goes (candidates_of nodes f) c (goes_all within) found

    pub steps : (c : ℕ) → Contains (candidates_of nodes f) c → Steps nodes f c
    steps c found = All-contains (Steps nodes f) (candidates_of nodes f) c (candidates_step_so nodes table f) found

  module _ (placed : List (Option ℕ)) (f : ℕ) (sound : IsSound nodes placed f) (c : ℕ) (found : Contains (candidates_of nodes f) c) where
    -- a node after c that is not the trigger's own group lies after f too
    later_than : (j : ℕ) → c < j → (parent_at nodes j ≡ None) ⊎ ((h : ℕ) × (parent_at nodes j ≡ Some h) × (is_round nodes c h ≡ true) × (c ≡ h + 1 → ⊥)) → Goes f c → f < j
    later_than j past outer (inl itself) = omega (arith, itself.0)
    later_than j past outer (inr (inl later)) = omega (arith, later.1)
    later_than j past outer (inr (inr (k, is, round))) = ⊎_elim (λ after. after) (λ before. absurd (between before outer)) (cases_lt f j)
      where
        inside : j ≤ f → (h : ℕ) × (k ≤ h) × (parent_at nodes j ≡ Some h)
        inside before = laws.held_inside k j (omega (arith, is)) (omega (arith, (round_ends nodes table f k round).1, laws.end_after f sound.within))

        between : j ≤ f → (parent_at nodes j ≡ None) ⊎ ((h : ℕ) × (parent_at nodes j ≡ Some h) × (is_round nodes c h ≡ true) × (c ≡ h + 1 → ⊥)) → ⊥
        between before (inl none) = none_some (inside before).0 (sym none ∙ (inside before).2)
        between before (inr (h, up, round_c, not_own)) =
            let held = inside before in
            let same : h ≡ held.0 = some_same h held.0 (sym up ∙ held.2) in
            not_own (omega (arith, (round_ends nodes table c h round_c).0, held.1, same, is))

    ahead_by : (j x : ℕ) (found : Option ℕ) → parent_at nodes j ≡ found → c < j → j ≤ x → ((h : ℕ) → parent_at nodes j ≡ Some h → is_round nodes c h ≡ true)
        → count_by (is_at x) (placed_after found (placed ++ Some c ∷ [])) ≡ 0
    ahead_by j x None is past low outer =
        let after : f < j = later_than j past (inl is) (goes f sound.within c found) in
        let before : count_by (is_at x) (placed_after None placed) ≡ 0 =
        sym (ap (λ (o : Option ℕ). count_by (is_at x) (placed_after o placed)) is) ∙ sound.ahead j x after low (λ h up. absurd (none_some h (sym is ∙ up))) in
        count_push (is_at x) placed (Some c) ∙ ap (λ b. count_by (is_at x) placed + cond b 1 0) (not_at x c (λ same. omega arith)) ∙ add_none _ ∙ before
    ahead_by j x (Some h) is past low outer = elim (cases_eq c (h + 1)) [
      | inl own ↦ ap (count_by (is_at x)) (after_yes (is_at (h + 1)) placed (Some c) (eq-eqb c (h + 1) own))
      | inr differ ↦
          let round : is_round nodes f h ≡ true = ⊎_elim (λ kept. kept) (λ own. absurd (differ own)) (steps f c found h (outer h is)) in
          let after : f < j = later_than j past (inr (h, is, outer h is, differ)) (goes f sound.within c found) in
          let before : count_by (is_at x) (placed_after (Some h) placed) ≡ 0 =
          sym (ap (λ (o : Option ℕ). count_by (is_at x) (placed_after o placed)) is)
          ∙ sound.ahead j x after low (λ g up. subst (λ (n : ℕ). is_round nodes f n ≡ true) (some_same h g (sym is ∙ up)) round) in
          ap (count_by (is_at x)) (after_no (is_at (h + 1)) placed (Some c) (ne_eqb c (h + 1) differ))
          ∙ count_push (is_at x) (placed_after (Some h) placed) (Some c)
          ∙ ap (λ b. count_by (is_at x) (placed_after (Some h) placed) + cond b 1 0) (not_at x c (λ same. omega arith)) ∙ add_none _ ∙ before
    ]

    -- nothing is ahead after a step
    pub ahead_next : Ahead nodes (placed ++ Some c ∷ []) c
    ahead_next j x past low outer = ahead_by j x (parent_at nodes j) refl past low outer

    -- a step to an entry of the table keeps a walk sound
    pub sound_next : (tag : Tag) → tag_at nodes c ≡ Some tag → IsSound nodes (placed ++ Some c ∷ []) c
    sound_next tag is =
        let entry = tagged nodes table c tag (slice_get nodes c) refl is in
        record { last = last_push placed c; within = entry.1; entry = entry.0; ahead = ahead_next }

  -- so does a segment that fits nowhere
  none_after : (x : ℕ) (found : Option ℕ) (placed : List (Option ℕ)) → count_by (is_at x) (placed_after found (placed ++ None ∷ [])) ≡ count_by (is_at x) (placed_after found placed)
  none_after x None placed = count_push (is_at x) placed None ∙ add_none _
  none_after x (Some h) placed =
      ap (count_by (is_at x)) (after_no (is_at (h + 1)) placed None refl) ∙ count_push (is_at x) (placed_after (Some h) placed) None ∙ add_none _

  pub sound_none : (placed : List (Option ℕ)) (f : ℕ) → IsSound nodes placed f → IsSound nodes (placed ++ None ∷ []) f
  sound_none placed f sound = record {
    last = last_none placed ∙ sound.last;
    within = sound.within;
    entry = sound.entry;
    ahead = λ j x past low outer. none_after x (parent_at nodes j) placed ∙ sound.ahead j x past low outer;
  }

  -- UNH placed alone is sound
  pub sound_first : IsSound nodes (Some 0 ∷ []) 0
  sound_first =
      let entry = tagged nodes table 0 _ (slice_get nodes 0) refl laws.first_tag in
      record {
        last = refl;
        within = entry.1;
        entry = entry.0;
        ahead = λ j x past low outer. alone j x (parent_at nodes j) refl past low outer;
      }
    where
      alone : (j x : ℕ) (found : Option ℕ) → parent_at nodes j ≡ found → 0 < j → j ≤ x → ((h : ℕ) → parent_at nodes j ≡ Some h → is_round nodes 0 h ≡ true) → count_by (is_at x) (placed_after found (Some 0 ∷ [])) ≡ 0
      alone j x None is past low outer = count_push (is_at x) [] (Some 0) ∙ ap (λ b. 0 + cond b 1 0) (not_at x 0 (λ same. omega arith))
      alone j x (Some h) is past low outer = absurd (omega (arith, (round_ends nodes table 0 h (outer h is)).0))
