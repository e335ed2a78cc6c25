-- From an entry to a candidate after it: which groups are round the candidate.
use Rattle.std.proofs.Common.{◌≡◌, ℕ, ◌+◌, ◌-◌, Bool, true, false, List, [], ◌∷◌, Option, Some, None, map, length, refl, sym, ap, ◌∙◌, ◌⊎◌, inl, inr, ⊎_elim}
use Rattle.std.specs.Prelude.{nat_eq, ◌||◌, if◌then◌else◌}
use Rattle.std.specs.List.{All, list_any, range_with_len}
use Rattle.std.specs.Option.{option_eq}
use Rattle.std.proofs.lemmas.Bool.{cond_both, eqb-true, or_cases, or_right, false≢true}
use Rattle.std.proofs.lemmas.List.Elements.{All-nil, All-cons, All-append, All-map, All-weaker, filter_passes}
use Rattle.edi_tables.specs.declared.table.Node.{Node}
use Rattle.edi_tables.specs.Rows.{IsTable}
use Rattle.edi_tables.specs.Walk.{parent_at, is_group_at, is_trigger_at, entry_for, are_siblings, later_siblings, groups_round, outward, candidates_of}
use Rattle.edi_tables.proofs.TableLaws.{HasTableLaws, table_laws}
use Rattle.edi_tables.proofs.Walking.{groups_round_none, groups_round_some}

-- a group is round an entry
abbrev pub is_round : List Node → ℕ → ℕ → Bool
is_round nodes c g = list_any (nat_eq g) (groups_round nodes c)

-- each group round c is round f too, or c is its trigger
abbrev pub Steps : List Node → ℕ → ℕ → Type 0
Steps nodes f c = (g : ℕ) → is_round nodes c g ≡ true → (is_round nodes f g ≡ true) ⊎ (c ≡ g + 1)

pub same_parent : (a b : Option ℕ) → option_eq nat_eq a b ≡ true → a ≡ b
same_parent None None same = refl
same_parent None (Some h) same = absurd (false≢true same)
same_parent (Some g) None same = absurd (false≢true same)
same_parent (Some g) (Some h) same = ap Some (eqb-true g h same)

no_member : (g : ℕ) (groups : List ℕ) → (g ∷ groups) ≡ [] → ⊥
no_member g groups same = cc

heads : (g h : ℕ) (groups others : List ℕ) → (g ∷ groups) ≡ (h ∷ others) → (g ≡ h) × (groups ≡ others)
heads g h groups others same = (cc, cc)

module _ (nodes : List Node) (table : IsTable nodes) where
  laws : HasTableLaws nodes
  laws = table_laws nodes table

  pub round_none : (c g : ℕ) → parent_at nodes c ≡ None → is_round nodes c g ≡ false
  round_none c g is = ap (list_any (nat_eq g)) (groups_round_none nodes table c is)

  pub round_some : (c h g : ℕ) → parent_at nodes c ≡ Some h → is_round nodes c g ≡ (nat_eq g h || is_round nodes h g)
  round_some c h g is = ap (list_any (nat_eq g)) (groups_round_some nodes table c h is)

  -- siblings have the same groups round them
  pub same_groups : (i j : ℕ) (found : Option ℕ) → parent_at nodes i ≡ found → parent_at nodes j ≡ found → groups_round nodes i ≡ groups_round nodes j
  same_groups i j None one two = groups_round_none nodes table i one ∙ sym (groups_round_none nodes table j two)
  same_groups i j (Some h) one two = groups_round_some nodes table i h one ∙ sym (groups_round_some nodes table j h two)

  -- the groups round a trigger are its own and those round that
  pub trigger_round : (j g : ℕ) → is_group_at nodes j ≡ true → is_round nodes (j + 1) g ≡ true → (g ≡ j) ⊎ (is_round nodes j g ≡ true)
  trigger_round j g group round = ⊎_elim
      (λ same. inl (eqb-true g j same)) (λ further. inr further)
      (or_cases (nat_eq g j) (is_round nodes j g) (sym (round_some (j + 1) j g (laws.trigger_parent j group)) ∙ round))

  -- the first of the groups round a node is its parent, and the others are round that
  pub parent_of_round : (i g : ℕ) (groups : List ℕ) (found : Option ℕ) → parent_at nodes i ≡ found → (g ∷ groups) ≡ groups_round nodes i → (found ≡ Some g) × (groups ≡ groups_round nodes g)
  parent_of_round i g groups None up is = absurd (no_member g groups (is ∙ groups_round_none nodes table i up))
  parent_of_round i g groups (Some h) up is =
      let parts = heads g h groups (groups_round nodes h) (is ∙ groups_round_some nodes table i h up) in
      (ap Some (sym parts.0), parts.1 ∙ ap (groups_round nodes) (sym parts.0))

  module _ (f : ℕ) where
    as_trigger : (j : ℕ) → is_group_at nodes j ≡ true → ((g : ℕ) → is_round nodes j g ≡ true → is_round nodes f g ≡ true) → Steps nodes f (j + 1)
    as_trigger j group outer g round = ⊎_elim
        (λ same. inr (ap (λ (n : ℕ). n + 1) (sym same))) (λ further. inl (outer g further)) (trigger_round j g group round)

    as_sibling : (i : ℕ) → ((g : ℕ) → is_round nodes i g ≡ true → is_round nodes f g ≡ true) → (j : ℕ) → are_siblings nodes i j ≡ true → Steps nodes f (entry_for nodes j)
    as_sibling i outer j siblings =
        let same = same_groups i j (parent_at nodes j) (same_parent (parent_at nodes i) (parent_at nodes j) siblings) refl in
        let round : (g : ℕ) → is_round nodes j g ≡ true → is_round nodes f g ≡ true = λ g is. outer g (ap (list_any (nat_eq g)) same ∙ is) in
        cond_both (is_group_at nodes j) (j + 1) j (Steps nodes f) (λ group. as_trigger j group round) (λ _ g is. inl (round g is))

    as_siblings : (i : ℕ) → ((g : ℕ) → is_round nodes i g ≡ true → is_round nodes f g ≡ true) → All (Steps nodes f) (map (entry_for nodes) (later_siblings nodes i))
    unfolding later_siblings
    as_siblings i outer =
        All-map (Steps nodes f) (entry_for nodes) (later_siblings nodes i)
        (All-weaker (λ j. are_siblings nodes i j ≡ true) (λ j. Steps nodes f (entry_for nodes j)) (as_sibling i outer) (later_siblings nodes i)
        (filter_passes (are_siblings nodes i) (range_with_len (i + 1) (length nodes - (i + 1)))))

    as_outward : (groups : List ℕ) (i : ℕ) → groups ≡ groups_round nodes i → ((g : ℕ) → is_round nodes i g ≡ true → is_round nodes f g ≡ true) → All (Steps nodes f) (outward nodes i groups)
    as_outward [] i is outer = as_siblings i outer
    as_outward (g ∷ groups) i is outer =
        let up = parent_of_round i g groups (parent_at nodes i) refl is in
        let inner : (h : ℕ) → is_round nodes g h ≡ true → is_round nodes f h ≡ true = λ h round. outer h (round_some i g h up.0 ∙ or_right (nat_eq h g) (is_round nodes g h) round) in
        All-append (Steps nodes f) (map (entry_for nodes) (later_siblings nodes i)) ((g + 1) ∷ outward nodes g groups) (as_siblings i outer)
        (All-cons (Steps nodes f) (g + 1) (outward nodes g groups) (as_trigger g (laws.parent_is_group i g up.0) inner) (as_outward groups g up.1 inner))

    -- each candidate after f steps so
    pub candidates_step_so : All (Steps nodes f) (candidates_of nodes f)
    unfolding candidates_of
    candidates_step_so =
        All-append (Steps nodes f) (if is_trigger_at nodes f then [] else f ∷ []) (outward nodes f (groups_round nodes f))
        (cond_both (is_trigger_at nodes f) [] (f ∷ []) (All (Steps nodes f)) (λ _. All-nil (Steps nodes f)) (λ _. All-cons (Steps nodes f) f [] (λ g round. inl round) (All-nil (Steps nodes f))))
        (as_outward (groups_round nodes f) f refl (λ g round. round))
