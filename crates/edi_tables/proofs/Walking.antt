-- Later siblings, the groups round a node and the nodes after it, by going from end to end.
use Rattle.std.proofs.Common.{◌≡◌, ℕ, ◌+◌, ◌<◌, ◌≤◌, Bool, true, false, List, [], ◌∷◌, ◌++◌, Option, Some, None, length, refl, sym, ap, subst, ◌∙◌, inl, inr, ⊎_elim, arith}
use Rattle.std.specs.Prelude.{nat_eq, nat_lt, ◌&&◌, ◌||◌}
use Rattle.std.specs.List.{list_any}
use Rattle.std.specs.Option.{option_eq}
use Rattle.std.proofs.lemmas.Bool.{eq-eqb, ne_eqb, lt-ltb, cases_lt, or_from, and_right}
use Rattle.std.proofs.lemmas.List.{append-nil}
use Rattle.edi_tables.specs.declared.table.Node.{Node}
use Rattle.edi_tables.specs.Rows.{rows_of, IsTable}
use Rattle.edi_tables.specs.Walk.{parent_at, end_at, are_siblings, later_siblings, level_end, groups_round, later_nodes}
use Rattle.edi_tables.proofs.Depths.{some_or_none}
use Rattle.edi_tables.proofs.Lawful.{depth_bound}
use Rattle.edi_tables.proofs.GroupLaws as groups
use Rattle.edi_tables.proofs.Restored.{depth_at-rows}
use Rattle.edi_tables.proofs.Stretches.{passing, passing_yes, passing_skip, passing_none, passing_same, passing_split}
use Rattle.edi_tables.proofs.TableLaws.{HasTableLaws, table_laws, level_end_none, level_end_some}

option_eq_self : (found : Option ℕ) → option_eq nat_eq found found ≡ true
option_eq_self None = refl
option_eq_self (Some g) = eq-eqb g g refl

option_eq_differ : (one other : Option ℕ) → (one ≡ other → ⊥) → option_eq nat_eq one other ≡ false
option_eq_differ None None differ = absurd (differ refl)
option_eq_differ None (Some h) differ = refl
option_eq_differ (Some g) None differ = refl
option_eq_differ (Some g) (Some h) differ = ne_eqb g h (λ same. differ (ap Some same))

pub siblings_same : (nodes : List Node) (i j : ℕ) → parent_at nodes i ≡ parent_at nodes j → are_siblings nodes i j ≡ true
siblings_same nodes i j same = subst (λ found. option_eq nat_eq (parent_at nodes i) found ≡ true) same (option_eq_self (parent_at nodes i))

pub siblings_differ : (nodes : List Node) (i j : ℕ) → (parent_at nodes i ≡ parent_at nodes j → ⊥) → are_siblings nodes i j ≡ false
siblings_differ nodes i j differ = option_eq_differ _ _ differ

or-false : (b : Bool) → (b || false) ≡ b
or-false true = refl
or-false false = refl

-- whether a node is after another of one of these levels
abbrev comes_after : List Node → List ℕ → ℕ → Bool
comes_after nodes levels j = list_any (λ i. nat_lt i j && are_siblings nodes i j) levels

module _ (nodes : List Node) (table : IsTable nodes) where
  laws : HasTableLaws nodes
  laws = table_laws nodes table

  -- a node's siblings aren't inside it
  none_inside : (i k : ℕ) → i < k → k < end_at nodes i → are_siblings nodes i k ≡ false
  none_inside i k past below =
      let held = laws.held_inside i k past below in
      siblings_differ nodes i k (λ same. absurd (omega (arith, held.1, laws.parent_before i held.0 (same ∙ held.2))))

  -- nor after the end of their level
  none_after : (i k : ℕ) → level_end nodes i ≤ k → k < length nodes → are_siblings nodes i k ≡ false
  none_after i k past below = siblings_differ nodes i k (λ same. elim (some_or_none (parent_at nodes i)) [
    | inl none ↦ absurd (omega (arith, level_end_none nodes i none))
    | inr some ↦ absurd (omega (arith, level_end_some nodes i some.0 some.1, laws.before_parent_end k some.0 (sym same ∙ some.1)))
  ])

  -- a level ends within the table, and after each of its nodes
  pub level_end_within : (i : ℕ) → level_end nodes i ≤ length nodes
  level_end_within i = elim (some_or_none (parent_at nodes i)) [
    | inl none ↦ omega (arith, level_end_none nodes i none)
    | inr some ↦ omega (arith, level_end_some nodes i some.0 some.1, laws.end_within some.0)
  ]

  pub end_in_level : (i : ℕ) → end_at nodes i ≤ level_end nodes i
  end_in_level i = elim (some_or_none (parent_at nodes i)) [
    | inl none ↦ omega (arith, level_end_none nodes i none, laws.end_within i)
    | inr some ↦ omega (arith, level_end_some nodes i some.0 some.1, laws.end_in_parent i some.0 some.1)
  ]

  -- a node that ends with its level has no later sibling
  pub later_siblings_none : (i : ℕ) → i < length nodes → end_at nodes i ≡ level_end nodes i → later_siblings nodes i ≡ []
  unfolding later_siblings
  later_siblings_none i within last =
      passing_none (are_siblings nodes i) (i + 1) (length nodes) (λ k from below. ⊎_elim (λ inside. none_inside i k (omega arith) inside) (λ later. none_after i k (omega arith) below) (cases_lt k (end_at nodes i)))

  -- another has the one that is at its end first, and then that one's
  pub later_siblings_next : (i : ℕ) → i < length nodes → end_at nodes i < level_end nodes i → later_siblings nodes i ≡ end_at nodes i ∷ later_siblings nodes (end_at nodes i)
  unfolding later_siblings
  later_siblings_next i within more =
      let same = laws.sibling_at_end i within more in
      let here : end_at nodes i < length nodes = omega (arith, level_end_within i) in
      passing_skip (are_siblings nodes i) (i + 1) (end_at nodes i) (length nodes) (omega (arith, laws.end_after i within)) (omega arith) (λ k from below. none_inside i k (omega arith) below)
      ∙ passing_yes (are_siblings nodes i) (end_at nodes i) (length nodes) here (siblings_same nodes i (end_at nodes i) (sym same))
      ∙ ap (λ more. end_at nodes i ∷ more) (passing_same (are_siblings nodes i) (are_siblings nodes (end_at nodes i)) (end_at nodes i + 1) (length nodes)
      (λ k from below. ap (λ found. option_eq nat_eq found (parent_at nodes k)) (sym same)))

  -- siblings have one level
  pub level_end_same : (i j : ℕ) → parent_at nodes i ≡ parent_at nodes j → level_end nodes i ≡ level_end nodes j
  level_end_same i j same = ap (λ (found : Option ℕ). elim found [ None ↦ length nodes | Some g ↦ end_at nodes g ]) same

  -- the groups round a node: its parent, and then those round that
  pub groups_round_none : (i : ℕ) → parent_at nodes i ≡ None → groups_round nodes i ≡ []
  groups_round_none i is = groups.groups_round_none nodes laws i is

  pub groups_round_some : (i g : ℕ) → parent_at nodes i ≡ Some g → groups_round nodes i ≡ g ∷ groups_round nodes g
  groups_round_some i g is = groups.groups_round_some nodes laws i g is

  -- there are no more than 16
  pub length-groups_round : (i : ℕ) → length (groups_round nodes i) ≤ 16
  length-groups_round i =
      subst (λ (made : List Node). length (groups_round made i) ≤ 16) (sym table.1)
      (omega (arith, depth_at-rows (rows_of nodes) table.0 i, depth_bound (rows_of nodes) table.0 i))

  -- a node inside a group has no sibling up to that group
  none_above : (g k i : ℕ) → g < k → k < end_at nodes g → i ≤ g → are_siblings nodes i k ≡ false
  none_above g k i past below up =
      let held = laws.held_inside g k past below in
      siblings_differ nodes i k (λ same. absurd (omega (arith, held.1, laws.parent_before i held.0 (same ∙ held.2))))

  levels_fail : (g k : ℕ) → g < k → k < end_at nodes g → comes_after nodes (g ∷ groups_round nodes g) k ≡ false
  levels_fail g k past below =
      let fails : (i : ℕ) → i ≤ g → (nat_lt i k && are_siblings nodes i k) ≡ false = λ i up. and_right _ _ (none_above g k i past below up) in
      or_from _ _ (fails g (omega arith)) (groups.groups_fail nodes laws (λ i. nat_lt i k && are_siblings nodes i k) g (λ h before. fails h (omega arith)))

  first_level : (levels : List ℕ) (f k : ℕ) → f < k → comes_after nodes (f ∷ levels) k ≡ (are_siblings nodes f k || comes_after nodes levels k)
  first_level levels f k past = rw (lt-ltb f k past) refl

  later_nodes_passing : (f : ℕ) → later_nodes nodes f ≡ passing (comes_after nodes (f ∷ groups_round nodes f)) (f + 1) (length nodes)
  unfolding later_nodes
  later_nodes_passing f = refl

  -- after a node outside all groups come its later siblings
  pub later_nodes_none : (f : ℕ) → parent_at nodes f ≡ None → later_nodes nodes f ≡ later_siblings nodes f
  unfolding later_nodes later_siblings
  later_nodes_none f is =
      passing_same (comes_after nodes (f ∷ groups_round nodes f)) (are_siblings nodes f) (f + 1) (length nodes)
      (λ k from below. ap (λ levels. comes_after nodes (f ∷ levels) k) (groups_round_none f is) ∙ first_level [] f k (omega arith) ∙ or-false _)

  two_levels : (f g k : ℕ) → parent_at nodes f ≡ Some g → f < k → comes_after nodes (f ∷ groups_round nodes f) k ≡ (are_siblings nodes f k || comes_after nodes (g ∷ groups_round nodes g) k)
  two_levels f g k is past =
      ap (λ levels. comes_after nodes (f ∷ levels) k) (groups_round_some f g is) ∙ first_level (g ∷ groups_round nodes g) f k past

  in_group : (f g k : ℕ) → parent_at nodes f ≡ Some g → f < k → k < end_at nodes g → comes_after nodes (f ∷ groups_round nodes f) k ≡ are_siblings nodes f k
  in_group f g k is past below =
      two_levels f g k is past ∙ ap (λ found. are_siblings nodes f k || found) (levels_fail g k (omega (arith, laws.parent_before f g is)) below) ∙ or-false _

  after_group : (f g k : ℕ) → parent_at nodes f ≡ Some g → end_at nodes g ≤ k → k < length nodes → comes_after nodes (f ∷ groups_round nodes f) k ≡ comes_after nodes (g ∷ groups_round nodes g) k
  after_group f g k is past below =
      two_levels f g k is (omega (arith, laws.before_parent_end f g is))
      ∙ ap (λ found. found || comes_after nodes (g ∷ groups_round nodes g) k) (none_after f k (omega (arith, level_end_some nodes f g is)) below)

  in_group_all : (f g : ℕ) → parent_at nodes f ≡ Some g → passing (comes_after nodes (f ∷ groups_round nodes f)) (f + 1) (end_at nodes g) ≡ later_siblings nodes f
  unfolding later_siblings
  in_group_all f g is =
      let low : f + 1 ≤ end_at nodes g = omega (arith, laws.before_parent_end f g is) in
      passing_same _ (are_siblings nodes f) (f + 1) (end_at nodes g) (λ k from below. in_group f g k is (omega arith) below)
      ∙ sym (passing_split (are_siblings nodes f) (f + 1) (end_at nodes g) (length nodes) low (laws.end_within g)
      ∙ ap (λ back. passing (are_siblings nodes f) (f + 1) (end_at nodes g) ++ back)
      (passing_none (are_siblings nodes f) (end_at nodes g) (length nodes) (λ k from below. none_after f k (omega (arith, level_end_some nodes f g is)) below))
      ∙ append-nil _)

  after_group_all : (f g : ℕ) → parent_at nodes f ≡ Some g → passing (comes_after nodes (f ∷ groups_round nodes f)) (end_at nodes g) (length nodes) ≡ later_nodes nodes g
  unfolding later_nodes
  after_group_all f g is =
      let low : g + 1 ≤ end_at nodes g = omega (arith, laws.before_parent_end f g is, laws.parent_before f g is) in
      passing_same _ (comes_after nodes (g ∷ groups_round nodes g)) (end_at nodes g) (length nodes) (λ k from below. after_group f g k is from below)
      ∙ sym (passing_skip (comes_after nodes (g ∷ groups_round nodes g)) (g + 1) (end_at nodes g) (length nodes) low (laws.end_within g) (λ k from below. levels_fail g k (omega arith) below))

  -- after another its later siblings, and then what is after its group
  pub later_nodes_some : (f g : ℕ) → parent_at nodes f ≡ Some g → later_nodes nodes f ≡ later_siblings nodes f ++ later_nodes nodes g
  later_nodes_some f g is =
      let low : f + 1 ≤ end_at nodes g = omega (arith, laws.before_parent_end f g is) in
      later_nodes_passing f ∙ passing_split (comes_after nodes (f ∷ groups_round nodes f)) (f + 1) (end_at nodes g) (length nodes) low (laws.end_within g)
      ∙ ap (λ front. front ++ passing (comes_after nodes (f ∷ groups_round nodes f)) (end_at nodes g) (length nodes)) (in_group_all f g is)
      ∙ ap (λ back. later_siblings nodes f ++ back) (after_group_all f g is)
