-- Which nodes are reached from an entry: the node of an entry, and when it is a candidate.
use Rattle.std.proofs.Common.{◌≡◌, ℕ, zero, suc, ◌+◌, ◌-◌, ◌<◌, ◌≤◌, true, false, List, [], ◌∷◌, Option, Some, None, map, length, get_or, refl, sym, ap, subst, ◌∙◌, ◌⊎◌, inl, inr, ⊎_elim, arith}
use Rattle.std.specs.Prelude.{nat_eq, nat_lt, ◌&&◌, Contains, if◌then◌else◌}
use Rattle.std.specs.List.{list_any, range_with_len}
use Rattle.std.proofs.lemmas.Bool.{lt-ltb, le-ltb, cases_lt, cond_both, cases_Bool, cases_eq, eq-eqb, eqb-true, or_cases, or_left, or_right, and_parts, false≢true}
use Rattle.std.proofs.lemmas.List.{get_or-map, length-map}
use Rattle.std.proofs.lemmas.List.Elements.{Contains-append_left, Contains-append_right}
use Rattle.std.proofs.lemmas.List.FromFn.{length-range_with_len, get_or-range_with_len}
use Rattle.edi_tables.specs.declared.table.Node.{Node}
use Rattle.edi_tables.specs.Rows.{IsTable}
use Rattle.edi_tables.specs.Walk.{parent_at, end_at, is_group_at, is_trigger_of, is_trigger_at, entry_for, are_siblings, later_siblings, groups_round, outward}
use Rattle.edi_tables.proofs.Depths.{some_or_none}
use Rattle.edi_tables.proofs.TableLaws.{HasTableLaws, table_laws}
use Rattle.edi_tables.proofs.Walking.{siblings_same}
use Rattle.edi_tables.proofs.Stepping.{is_round, same_parent, round_none, round_some, same_groups, parent_of_round}
use Rattle.edi_tables.proofs.Places.{kept}

-- a node is one of a range
in_range : (a n k : ℕ) → a ≤ k → k < a + n → (i : ℕ) × (i < length (range_with_len a n)) × (get_or (range_with_len a n) i k ≡ k)
in_range a n k low high =
    let within : k - a < n = omega arith in
    let sum : a + (k - a) ≡ k = omega arith in
    (k - a, omega (arith, length-range_with_len a n), get_or-range_with_len a n (k - a) k within ∙ sum)

-- what is made of a member is a member of what is made
in_map : (made : ℕ → ℕ) (xs : List ℕ) (x : ℕ) → Contains xs x → Contains (map made xs) (made x)
in_map made xs x found = (found.0, omega (arith, found.1, length-map xs made), get_or-map made xs found.0 x (made x) found.1 ∙ ap made found.2)

-- a member stays one after a new head
in_tail : (x y : ℕ) (xs : List ℕ) → Contains xs y → Contains (x ∷ xs) y
in_tail x y xs found = (suc found.0, omega (arith, found.1), found.2)

-- nothing is not something
none_some : (g : ℕ) → None ≡ Some g → ⊥
none_some g same = cc

-- two equal options have equal contents
some_same : (g h : ℕ) → Some g ≡ Some h → g ≡ h
some_same g h same = cc

module _ (nodes : List Node) (table : IsTable nodes) where
  laws : HasTableLaws nodes
  laws = table_laws nodes table

  -- a node between a group and its end is in it, by no more than n steps outwards
  inside_by : (n h k : ℕ) → k ≤ n → h < k → k < end_at nodes h → is_round nodes k h ≡ true
  inside_by zero h k fuel past below = absurd (omega arith)
  inside_by (suc n) h k fuel past below =
      let held = laws.held_inside h k past below in
      let before : held.0 < k = laws.parent_before k held.0 held.2 in
      round_some nodes table k held.0 h held.2
      ∙ (elim (cases_eq h held.0) [
        | inl same ↦ or_left (nat_eq h held.0) (is_round nodes held.0 h) (eq-eqb h held.0 same)
        | inr differ ↦ or_right (nat_eq h held.0) (is_round nodes held.0 h) (inside_by n h held.0 (omega arith) (omega (arith, held.1)) (omega arith))
      ])

  -- a node between a group and its end is in it
  pub inside_round : (h k : ℕ) → h < k → k < end_at nodes h → is_round nodes k h ≡ true
  inside_round h k past below = inside_by k h k (omega arith) past below

  -- a group round a node comes before it and ends no earlier
  ends_by : (n i k : ℕ) (found : Option ℕ) → parent_at nodes i ≡ found → i ≤ n → is_round nodes i k ≡ true → (k < i) × (end_at nodes i ≤ end_at nodes k)
  ends_by n i k None is fuel round = absurd (false≢true (sym (round_none nodes table i k is) ∙ round))
  ends_by zero i k (Some g) is fuel round = absurd (omega (arith, laws.parent_before i g is))
  ends_by (suc n) i k (Some g) is fuel round = ⊎_elim
      (λ same. let here : k ≡ g = eqb-true k g same in
      (omega (arith, laws.parent_before i g is), omega (arith, laws.end_in_parent i g is, ap (end_at nodes) here)))
      (λ further. let outer = ends_by n g k (parent_at nodes g) refl (omega (arith, laws.parent_before i g is)) further in
      (omega (arith, laws.parent_before i g is, outer.0), omega (arith, laws.end_in_parent i g is, outer.1)))
      (or_cases (nat_eq k g) (is_round nodes g k) (sym (round_some nodes table i g k is) ∙ round))

  pub round_ends : (i k : ℕ) → is_round nodes i k ≡ true → (k < i) × (end_at nodes i ≤ end_at nodes k)
  round_ends i k round = ends_by i i k (parent_at nodes i) refl (omega arith) round

  -- what a group is round is in the table
  round_within : (i k : ℕ) (found : Option ℕ) → parent_at nodes i ≡ found → is_round nodes i k ≡ true → i < length nodes
  round_within i k None is round = absurd (false≢true (sym (round_none nodes table i k is) ∙ round))
  round_within i k (Some g) is round = laws.held_within i g is

  -- a group round a group round a node is round the node
  pub inner_round : (i k g : ℕ) → is_round nodes i k ≡ true → is_round nodes k g ≡ true → is_round nodes i g ≡ true
  inner_round i k g outer inner =
      let one = round_ends i k outer in
      let two = round_ends k g inner in
      let low : g < i = omega arith in
      inside_round g i low (omega (arith, laws.end_after i (round_within i k (parent_at nodes i) refl outer)))

  -- so a group is round a node exactly where it comes before it and ends after it
  pub round_not : (i k : ℕ) → i < length nodes → (k < i → i < end_at nodes k → ⊥) → is_round nodes i k ≡ false
  round_not i k within none = elim (cases_Bool (is_round nodes i k)) [
    | inl round ↦ absurd (none (round_ends i k round).0 (omega (arith, (round_ends i k round).1, laws.end_after i within)))
    | inr not ↦ not
  ]

  pub round_before : (i k end : ℕ) → i < length nodes → k < i → end ≡ end_at nodes k → nat_lt i end ≡ is_round nodes i k
  round_before i k end within before is = ⊎_elim
      (λ inside. lt-ltb i end inside ∙ sym (inside_round k i before (omega (arith, is))))
      (λ past. le-ltb i end past ∙ sym (round_not i k within (λ _ inside. omega (arith, is))))
      (cases_lt i end)

  pub round_past : (i k : ℕ) → i < length nodes → i ≤ k → nat_lt k i ≡ is_round nodes i k
  round_past i k within past = le-ltb k i past ∙ sym (round_not i k within (λ before _. omega arith))

  -- the node after a group is a trigger
  pub trigger_is : (g : ℕ) → is_group_at nodes g ≡ true → is_trigger_at nodes (g + 1) ≡ true
  trigger_is g group = ap (λ found. is_trigger_of found (g + 1)) (laws.trigger_parent g group) ∙ eq-eqb (g + 1) (g + 1) refl

  -- the node of an entry: its group for a trigger, and itself for another
  pub record StandsFor (n entry : ℕ) : Type 0 where
    pub entered : entry_for nodes n ≡ entry
    pub reached : (if is_trigger_at nodes entry then entry - 1 else entry) ≡ n
    pub low : n ≤ entry
    pub outer : (g : ℕ) → is_round nodes n g ≡ true → is_round nodes entry g ≡ true
    pub inner : (h : ℕ) → parent_at nodes n ≡ Some h → h + 1 < entry
    pub later : (e : ℕ) → is_group_at nodes e ≡ false → e < entry → e < n
    pub before : (j : ℕ) → j < n → entry_for nodes j < entry

  -- an entry that is no trigger is not directly after its group
  plain_parent : (e h : ℕ) → is_trigger_at nodes e ≡ false → parent_at nodes e ≡ Some h → h + 1 ≡ e → ⊥
  plain_parent e h plain up same = false≢true (sym plain ∙ ap (λ found. is_trigger_of found e) up ∙ eq-eqb (h + 1) e same)

  -- such an entry is its own node
  stands_itself : (e : ℕ) → is_group_at nodes e ≡ false → is_trigger_at nodes e ≡ false → StandsFor e e
  stands_itself e entry plain = record {
    entered = ap (λ group. if group then e + 1 else e) entry;
    reached = ap (λ trigger. if trigger then e - 1 else e) plain;
    low = omega arith;
    outer = λ g round. round;
    inner = λ h up. elim (cases_eq (h + 1) e) [
      | inl same ↦ absurd (plain_parent e h plain up same)
      | inr differ ↦ omega (arith, laws.parent_before e h up)
    ];
    later = λ k is less. less;
    before = λ j less. cond_both (is_group_at nodes j) (j + 1) j (λ x. x < e)
        (λ group. elim (cases_eq (j + 1) e) [
          | inl same ↦ absurd (plain_parent e j plain (ap (parent_at nodes) (sym same) ∙ laws.trigger_parent j group) same)
          | inr differ ↦ omega arith
        ])
        (λ _. less);
  }

  -- a trigger's node is its group
  stands_trigger : (g : ℕ) → is_group_at nodes g ≡ true → StandsFor g (g + 1)
  stands_trigger g group = record {
    entered = ap (λ is. if is then g + 1 else g) group;
    reached = ap (λ trigger. if trigger then (g + 1) - 1 else g + 1) (trigger_is g group) ∙ (let back : (g + 1) - 1 ≡ g = omega arith in back);
    low = omega arith;
    outer = λ h round. round_some nodes table (g + 1) g h (laws.trigger_parent g group) ∙ or_right (nat_eq h g) (is_round nodes g h) round;
    inner = λ h up. omega (arith, laws.parent_before g h up);
    later = λ e is less. elim (cases_eq e g) [
      | inl same ↦ absurd (false≢true (sym is ∙ ap (is_group_at nodes) same ∙ group))
      | inr differ ↦ omega arith
    ];
    before = λ j less. cond_both (is_group_at nodes j) (j + 1) j (λ x. x < g + 1) (λ _. omega arith) (λ _. omega arith);
  }

  -- each trigger is the entry of some node
  trigger_of : (e : ℕ) (found : Option ℕ) → parent_at nodes e ≡ found → is_trigger_of found e ≡ true → (n : ℕ) × StandsFor n e
  trigger_of e None up trigger = absurd (false≢true trigger)
  trigger_of e (Some g) up trigger = (g, subst (StandsFor g) (eqb-true (g + 1) e trigger) (stands_trigger g (laws.parent_is_group e g up)))

  -- each entry is the entry of some node
  pub stands : (e : ℕ) → is_group_at nodes e ≡ false → (n : ℕ) × StandsFor n e
  stands e entry = elim (cases_Bool (is_trigger_at nodes e)) [
    | inl trigger ↦ trigger_of e (parent_at nodes e) refl trigger
    | inr plain ↦ (e, stands_itself e entry plain)
  ]

  -- the entry of a later sibling is among the entries of its level
  sibling_in : (i n : ℕ) → i < n → n < length nodes → parent_at nodes i ≡ parent_at nodes n → Contains (map (entry_for nodes) (later_siblings nodes i)) (entry_for nodes n)
  unfolding later_siblings
  sibling_in i n past within same =
      let at = in_range (i + 1) (length nodes - (i + 1)) n (omega arith) (omega arith) in
      in_map (entry_for nodes) (later_siblings nodes i) n
      (kept (are_siblings nodes i) (range_with_len (i + 1) (length nodes - (i + 1))) n at.0 at.1 at.2 (siblings_same nodes i n same))

  -- where no groups are round a node, none is
  no_groups : (i g : ℕ) → [] ≡ groups_round nodes i → is_round nodes i g ≡ true → ⊥
  no_groups i g is round = false≢true (ap (list_any (nat_eq g)) is ∙ round)

  -- and it has no parent
  outside_of : (i : ℕ) (found : Option ℕ) → parent_at nodes i ≡ found → [] ≡ groups_round nodes i → parent_at nodes i ≡ None
  outside_of i None up is = up
  outside_of i (Some g) up is =
      absurd (no_groups i g is (round_some nodes table i g g up ∙ or_left (nat_eq g g) (is_round nodes g g) (eq-eqb g g refl)))

  -- a group round a node that is not its parent is round its parent
  further_round : (i g n : ℕ) → parent_at nodes i ≡ Some g → (parent_at nodes i ≡ parent_at nodes n → ⊥)
      → ((h : ℕ) → parent_at nodes n ≡ Some h → is_round nodes i h ≡ true) → (h : ℕ) → parent_at nodes n ≡ Some h → is_round nodes g h ≡ true
  further_round i g n up differ round h held = ⊎_elim
      (λ same. absurd (differ (up ∙ ap Some (sym (eqb-true h g same)) ∙ sym held)))
      (λ further. further) (or_cases (nat_eq h g) (is_round nodes g h) (sym (round_some nodes table i g h up) ∙ round h held))

  -- two parents are the same or not
  same_or_not : (a b : Option ℕ) → (a ≡ b) ⊎ (a ≡ b → ⊥)
  same_or_not None None = inl refl
  same_or_not None (Some h) = inr (none_some h)
  same_or_not (Some g) None = inr (λ same. none_some g (sym same))
  same_or_not (Some g) (Some h) = elim (cases_eq g h) [
    | inl same ↦ inl (ap Some same)
    | inr differ ↦ inr (λ same. differ (some_same g h same))
  ]

  -- a later node whose group is round i, or that is in none, is reached outwards
  pub in_outward : (groups : List ℕ) (i n : ℕ) → groups ≡ groups_round nodes i → i < n → n < length nodes
      → ((h : ℕ) → parent_at nodes n ≡ Some h → is_round nodes i h ≡ true) → Contains (outward nodes i groups) (entry_for nodes n)
  in_outward [] i n is past within round =
      sibling_in i n past within
      (elim (some_or_none (parent_at nodes n)) [
        | inl none ↦ outside_of i (parent_at nodes i) refl is ∙ sym none
        | inr some ↦ absurd (no_groups i some.0 is (round some.0 some.1))
      ])
  in_outward (g ∷ groups) i n is past within round =
      let up = parent_of_round nodes table i g groups (parent_at nodes i) refl is in
      elim (same_or_not (parent_at nodes i) (parent_at nodes n)) [
        | inl same ↦ Contains-append_left (map (entry_for nodes) (later_siblings nodes i)) ((g + 1) ∷ outward nodes g groups) (entry_for nodes n) (sibling_in i n past within same)
        | inr differ ↦ Contains-append_right (map (entry_for nodes) (later_siblings nodes i)) ((g + 1) ∷ outward nodes g groups) (entry_for nodes n)
            (in_tail (g + 1) (entry_for nodes n) (outward nodes g groups)
            (in_outward groups g n up.1 (omega (arith, laws.parent_before i g up.0)) within (further_round i g n up.0 differ round)))
      ]

  -- a group round a sibling is round the node
  sibling_round : (i j g : ℕ) → are_siblings nodes i j ≡ true → is_round nodes j g ≡ true → is_round nodes i g ≡ true
  sibling_round i j g siblings round =
      ap (list_any (nat_eq g)) (same_groups nodes table i j (parent_at nodes j) (same_parent (parent_at nodes i) (parent_at nodes j) siblings) refl) ∙ round

  -- where a node is a later sibling on one of the levels round i, the groups round it are round i
  pub level_outer : (groups : List ℕ) (i j : ℕ) → groups ≡ groups_round nodes i → list_any (λ k. nat_lt k j && are_siblings nodes k j) (i ∷ groups) ≡ true
      → (g : ℕ) → is_round nodes j g ≡ true → is_round nodes i g ≡ true
  level_outer [] i j is some g round = ⊎_elim
      (λ here. sibling_round i j g (and_parts (nat_lt i j) (are_siblings nodes i j) here).1 round) (λ none. absurd (false≢true none))
      (or_cases (nat_lt i j && are_siblings nodes i j) false some)
  level_outer (h ∷ groups) i j is some g round =
      let up = parent_of_round nodes table i h groups (parent_at nodes i) refl is in
      ⊎_elim
      (λ here. sibling_round i j g (and_parts (nat_lt i j) (are_siblings nodes i j) here).1 round)
      (λ further. round_some nodes table i h g up.0 ∙ or_right (nat_eq g h) (is_round nodes h g) (level_outer groups h j up.1 further g round))
      (or_cases (nat_lt i j && are_siblings nodes i j) (list_any (λ k. nat_lt k j && are_siblings nodes k j) (h ∷ groups)) some)
