-- The groups of a narrowed table: the groups round a node, and which nodes are triggers, are as in the base.
use Rattle.std.proofs.Common.{◌≡◌, ℕ, zero, suc, ◌+◌, ◌<◌, ◌≤◌, Bool, true, false, List, [], ◌∷◌, Option, Some, None, map, length, refl, sym, ap, ◌∙◌, inl, inr, arith}
use Rattle.std.specs.Prelude.{nat_eq, ◌==◌, ◌&&◌, ◌||◌, if◌then◌else◌}
use Rattle.std.specs.List.{All, list_any}
use Rattle.std.specs.Option.{option_map}
use Rattle.std.proofs.lemmas.Bool.{cases_eq, cases_order, eq-eqb, ne_eqb}
use Rattle.std.proofs.lemmas.List.Elements.{All-head, All-tail}
use Rattle.std.proofs.lemmas.Option.{slice_get-get_or}
use Rattle.edi_tables.specs.declared.tag.Tag.{Tag}
use Rattle.edi_tables.specs.declared.table.Node.{Node}
use Rattle.edi_tables.specs.Rows.{IsTable}
use Rattle.edi_tables.specs.Walk.{tag_at, parent_at, is_group_at, entry_for, is_trigger_of, is_trigger_at, groups_round, is_repeat}
use Rattle.edi_tables.proofs.NodeReads.{tag_at_is, is_group_at_is}
use Rattle.edi_tables.proofs.GroupLaws.{groups_all}
use Rattle.edi_tables.proofs.Stepping.{is_round}
use Rattle.edi_tables.proofs.TableLaws.{HasTableLaws, table_laws}
use Rattle.edi_tables.proofs.Walking.{groups_round_none, groups_round_some}
use Rattle.guide_overlay.specs.Narrows.{Narrows}

-- what is read past the nodes
blank_node : Node
blank_node = record { tag = None; must = false; max = 0; parent = None; end = 0 }

abbrev has_no_tag : Option Tag → Bool
has_no_tag tag = elim tag [ None ↦ true | Some t ↦ false ]

group_is : (nodes : List Node) (i : ℕ) → i < length nodes → is_group_at nodes i ≡ has_no_tag (tag_at nodes i)
group_is nodes i within =
    let at = slice_get-get_or nodes i blank_node within in
    is_group_at_is nodes i _ at ∙ sym (ap has_no_tag (tag_at_is nodes i _ at))

pub any_map : (test : ℕ → Bool) (to : ℕ → ℕ) (xs : List ℕ) → list_any test (map to xs) ≡ list_any (λ x. test (to x)) xs
any_map test to [] = refl
any_map test to (x ∷ xs) = ap (λ more. test (to x) || more) (any_map test to xs)

pub any_same : (p q : ℕ → Bool) (xs : List ℕ) → All (λ x. p x ≡ q x) xs → list_any p xs ≡ list_any q xs
any_same p q [] same = refl
any_same p q (x ∷ xs) same =
    ap (λ here. here || list_any p xs) (All-head (λ x. p x ≡ q x) x xs same) ∙ ap (λ more. q x || more) (any_same p q xs (All-tail (λ x. p x ≡ q x) x xs same))

module _ (base nodes : List Node) (to : ℕ → ℕ) (narrows : Narrows base nodes to) where
  -- numbers stay in order, and apart
  pub to_back : (i j : ℕ) → to i < to j → i < j
  to_back i j less = elim (cases_order i j) [
    | inl same ↦ absurd (omega (arith, ap to same))
    | inr differ ↦ elim differ [
      | inl before ↦ before
      | inr after ↦ absurd (omega (arith, narrows.rises j i after))
    ]
  ]

  pub to_once : (i j : ℕ) → to i ≡ to j → i ≡ j
  to_once i j is = elim (cases_order i j) [
    | inl same ↦ same
    | inr differ ↦ elim differ [
      | inl before ↦ absurd (omega (arith, narrows.rises i j before))
      | inr after ↦ absurd (omega (arith, narrows.rises j i after))
    ]
  ]

  pub same_kept : (i j : ℕ) → nat_eq (to i) (to j) ≡ nat_eq i j
  same_kept i j = elim (cases_eq i j) [
    | inl same ↦ eq-eqb (to i) (to j) (ap to same) ∙ sym (eq-eqb i j same)
    | inr differ ↦ ne_eqb (to i) (to j) (λ is. differ (to_once i j is)) ∙ sym (ne_eqb i j differ)
  ]

  pub group_kept : (i : ℕ) → i < length nodes → is_group_at base (to i) ≡ is_group_at nodes i
  group_kept i within =
      group_is base (to i) (narrows.within i within) ∙ sym (ap has_no_tag (narrows.tag i within)) ∙ sym (group_is nodes i within)

  pub parent_none : (i : ℕ) → i < length nodes → parent_at nodes i ≡ None → parent_at base (to i) ≡ None
  parent_none i within is = narrows.parent i within ∙ ap (option_map to) is

  pub parent_some : (i g : ℕ) → i < length nodes → parent_at nodes i ≡ Some g → parent_at base (to i) ≡ Some (to g)
  parent_some i g within is = narrows.parent i within ∙ ap (option_map to) is

  module _ (outer : IsTable base) (inner : IsTable nodes) where
    base_laws : HasTableLaws base
    base_laws = table_laws base outer

    laws : HasTableLaws nodes
    laws = table_laws nodes inner

    -- directly after a group is its trigger of the base
    pub trigger_next : (g : ℕ) → is_group_at nodes g ≡ true → to (g + 1) ≡ to g + 1
    trigger_next g group =
        let within : g < length nodes = omega (arith, laws.trigger_within g group) in
        let round : is_group_at base (to g) ≡ true = group_kept g within ∙ group in
        let found = narrows.left (to g + 1) (base_laws.trigger_within (to g) round) (base_laws.trigger_must (to g) round) (inr (g, within, base_laws.trigger_parent (to g) round)) in
        let past : g < found.0 = to_back g found.0 (omega (arith, found.2)) in
        elim (cases_eq (g + 1) found.0) [
          | inl same ↦ ap to same ∙ found.2
          | inr differ ↦ absurd (omega (arith, narrows.rises g (g + 1) (omega arith), narrows.rises (g + 1) found.0 (omega arith), found.2))
        ]

    parent_within : (i g : ℕ) → parent_at nodes i ≡ Some g → g < length nodes
    parent_within i g is = omega (arith, laws.parent_before i g is, laws.held_within i g is)

    groups_by : (n i : ℕ) (found : Option ℕ) → parent_at nodes i ≡ found → i ≤ n → i < length nodes → groups_round base (to i) ≡ map to (groups_round nodes i)
    groups_by n i None is fuel within = groups_round_none base outer (to i) (parent_none i within is) ∙ sym (ap (map to) (groups_round_none nodes inner i is))
    groups_by zero i (Some g) is fuel within = absurd (omega (arith, laws.parent_before i g is))
    groups_by (suc n) i (Some g) is fuel within =
        groups_round_some base outer (to i) (to g) (parent_some i g within is)
        ∙ ap (λ more. to g ∷ more) (groups_by n g (parent_at nodes g) refl (omega (arith, laws.parent_before i g is)) (parent_within i g is))
        ∙ sym (ap (map to) (groups_round_some nodes inner i g is))

    -- the groups round a node
    pub groups_kept : (i : ℕ) → i < length nodes → groups_round base (to i) ≡ map to (groups_round nodes i)
    groups_kept i within = groups_by i i (parent_at nodes i) refl (omega arith) within

    -- whether the node after a group is this one
    next_kept : (g c : ℕ) → is_group_at nodes g ≡ true → (to g + 1 == to c) ≡ (g + 1 == c)
    next_kept g c group = ap (λ (n : ℕ). n == to c) (sym (trigger_next g group)) ∙ same_kept (g + 1) c

    trigger_by : (i : ℕ) (found : Option ℕ) → parent_at nodes i ≡ found → i < length nodes → is_trigger_at base (to i) ≡ is_trigger_of found i
    trigger_by i None is within = ap (λ found. is_trigger_of found (to i)) (parent_none i within is)
    trigger_by i (Some g) is within = ap (λ found. is_trigger_of found (to i)) (parent_some i g within is) ∙ next_kept g i (laws.parent_is_group i g is)

    pub trigger_kept : (i : ℕ) → i < length nodes → is_trigger_at base (to i) ≡ is_trigger_at nodes i
    trigger_kept i within = trigger_by i (parent_at nodes i) refl within

    entry_by : (i : ℕ) (group : Bool) → is_group_at nodes i ≡ group → (if group then to i + 1 else to i) ≡ to (if group then i + 1 else i)
    entry_by i true group = sym (trigger_next i group)
    entry_by i false group = refl

    -- the entry for a node
    pub entry_kept : (i : ℕ) → i < length nodes → entry_for base (to i) ≡ to (entry_for nodes i)
    entry_kept i within =
        ap (λ (group : Bool). if group then to i + 1 else to i) (group_kept i within) ∙ entry_by i (is_group_at nodes i) refl

    -- whether a group is round a node
    pub round_kept : (c g : ℕ) → c < length nodes → is_round base (to c) (to g) ≡ is_round nodes c g
    round_kept c g within =
        ap (list_any (nat_eq (to g))) (groups_kept c within) ∙ any_map (nat_eq (to g)) to (groups_round nodes c)
        ∙ any_same (λ h. nat_eq (to g) (to h)) (nat_eq g) (groups_round nodes c) (λ k d _. same_kept g _)

    -- whether going from one entry to another repeats a group
    pub repeat_kept : (f c : ℕ) → f < length nodes → c < length nodes → is_repeat base (to f) (to c) ≡ is_repeat nodes f c
    repeat_kept f c f_within within =
        ap (λ b. b && list_any (λ h. h + 1 == to c) (groups_round base (to f))) (trigger_kept c within)
        ∙ ap (λ b. is_trigger_at nodes c && b)
        (ap (list_any (λ h. h + 1 == to c)) (groups_kept f f_within) ∙ any_map (λ h. h + 1 == to c) to (groups_round nodes f)
        ∙ any_same (λ h. to h + 1 == to c) (λ h. h + 1 == c) (groups_round nodes f)
        (groups_all nodes laws (λ h. (to h + 1 == to c) ≡ (h + 1 == c)) (λ i g is. next_kept g c (laws.parent_is_group i g is)) f))
