-- From a place on a level of a table to the next: its next sibling, or the group that holds it.
use Rattle.std.proofs.Common.{◌≡◌, ℕ, zero, suc, ◌+◌, ◌-◌, ◌<◌, ◌≤◌, Bool, true, false, cond, List, [], ◌∷◌, ◌++◌, Option, Some, None, map, length, refl, sym, ap, ◌∙◌, inl, inr, ⊎_elim, arith}
use Rattle.std.specs.Prelude.{filter, nat_lt, ◌&&◌}
use Rattle.std.specs.List.{range_with_len}
use Rattle.std.proofs.lemmas.Bool.{lt-ltb, le-ltb, and_right, cases_Bool, cases_lt}
use Rattle.edi_tables.specs.declared.table.Node.{Node}
use Rattle.edi_tables.specs.Rows.{IsTable}
use Rattle.edi_tables.specs.Walk.{parent_at, end_at, is_must_at, entry_for, later_siblings, groups_round, outward, later_nodes}
use Rattle.edi_tables.specs.Places.{IsNode, IsPlace, IsNextSibling, first_then, candidates_left, musts_left}
use Rattle.edi_tables.proofs.TableLaws.{table_laws}
use Rattle.edi_tables.proofs.Walking.{groups_round_none, groups_round_some, later_nodes_none, later_nodes_some}
use Rattle.edi_tables.proofs.Outward.{next_sibling, no_sibling, outward_parts, beyond_groups}

module _ (nodes : List Node) where
  -- the node of a place is small
  pub place_small : (at : ℕ) → IsNode nodes at → at < 2000
  place_small at node = omega (arith, (table_laws nodes node.table).small, node.within)

  -- the group that holds a node is a node
  pub up : (at g : ℕ) → IsNode nodes at → Some g ≡ parent_at nodes at → IsNode nodes g
  up at g node is = record { table = node.table; within = omega (arith, (table_laws nodes node.table).parent_before at g (sym is), node.within) }

  -- going to the next sibling
  pub along : (at bound end : ℕ) → IsPlace nodes at bound → end ≡ end_at nodes at → end < bound
      → IsNextSibling nodes at bound end
  along at bound end place is below =
      let next = next_sibling nodes place.node.table at bound end end place.node.within place.level is below is in
      record {
        place = record { node = record { table = place.node.table; within = next.within }; level = place.level ∙ sym next.level };
        below = below;
        end = is;
        siblings = next.siblings;
      }

  pub along_none : (at bound end : ℕ) → IsPlace nodes at bound → end ≡ end_at nodes at → bound ≤ end → later_siblings nodes at ≡ []
  along_none at bound end place is past = no_sibling nodes place.node.table at bound end place.node.within place.level is past

  -- the groups round a node
  pub groups_more : (at g : ℕ) → IsNode nodes at → Some g ≡ parent_at nodes at → groups_round nodes at ≡ g ∷ groups_round nodes g
  groups_more at g node is = groups_round_some nodes node.table at g (sym is)

  pub groups_end : (at : ℕ) → IsNode nodes at → None ≡ parent_at nodes at → groups_round nodes at ≡ []
  groups_end at node is = groups_round_none nodes node.table at (sym is)

  -- the candidates outwards of a node: that of its next sibling first, then its group's trigger
  abbrev outwards : ℕ → List ℕ
  outwards at = outward nodes at (groups_round nodes at)

  outwards_parts : (at : ℕ) → outwards at ≡ map (entry_for nodes) (later_siblings nodes at) ++ beyond_groups nodes (groups_round nodes at)
  outwards_parts at = outward_parts nodes at (groups_round nodes at)

  same_beyond : (at next : ℕ) (found : Option ℕ) → IsTable nodes → parent_at nodes at ≡ found → parent_at nodes next ≡ found → groups_round nodes at ≡ groups_round nodes next
  same_beyond at next None table one two = groups_round_none nodes table at one ∙ sym (groups_round_none nodes table next two)
  same_beyond at next (Some g) table one two = groups_round_some nodes table at g one ∙ sym (groups_round_some nodes table next g two)

  beside : (at bound next : ℕ) → IsPlace nodes at bound → IsNextSibling nodes at bound next → parent_at nodes next ≡ parent_at nodes at
  beside at bound next place step =
      ap (parent_at nodes) step.end ∙ (table_laws nodes place.node.table).sibling_at_end at place.node.within (omega (arith, step.end, step.below, place.level))

  pub outward_sibling : (at bound next : ℕ) → IsPlace nodes at bound → IsNextSibling nodes at bound next → outwards at ≡ entry_for nodes next ∷ outwards next
  outward_sibling at bound next place step =
      outwards_parts at
      ∙ ap (λ siblings. map (entry_for nodes) siblings ++ beyond_groups nodes (groups_round nodes at)) step.siblings
      ∙ ap (λ groups. entry_for nodes next ∷ (map (entry_for nodes) (later_siblings nodes next) ++ beyond_groups nodes groups))
      (same_beyond at next (parent_at nodes at) place.node.table refl (beside at bound next place step))
      ∙ ap (λ more. entry_for nodes next ∷ more) (sym (outwards_parts next))

  pub outward_group : (at g : ℕ) → IsNode nodes at → later_siblings nodes at ≡ [] → Some g ≡ parent_at nodes at → outwards at ≡ (g + 1) ∷ outwards g
  outward_group at g node none is =
      outwards_parts at
      ∙ ap (λ siblings. map (entry_for nodes) siblings ++ beyond_groups nodes (groups_round nodes at)) none
      ∙ ap (beyond_groups nodes) (groups_more at g node is)

  pub outward_end : (at : ℕ) → IsNode nodes at → later_siblings nodes at ≡ [] → None ≡ parent_at nodes at → outwards at ≡ []
  outward_end at node none is =
      outwards_parts at
      ∙ ap (λ siblings. map (entry_for nodes) siblings ++ beyond_groups nodes (groups_round nodes at)) none
      ∙ ap (beyond_groups nodes) (groups_end at node is)

  -- the nodes that are left later: the next sibling first, then those of its group
  pub later_sibling : (at bound next : ℕ) → IsPlace nodes at bound → IsNextSibling nodes at bound next → later_nodes nodes at ≡ next ∷ later_nodes nodes next
  later_sibling at bound next place step = by (parent_at nodes at) refl
    where
      same : parent_at nodes next ≡ parent_at nodes at
      same = beside at bound next place step

      by : (found : Option ℕ) → parent_at nodes at ≡ found → later_nodes nodes at ≡ next ∷ later_nodes nodes next
      by None is = later_nodes_none nodes place.node.table at is ∙ step.siblings ∙ ap (λ more. next ∷ more) (sym (later_nodes_none nodes place.node.table next (same ∙ is)))
      by (Some g) is =
          later_nodes_some nodes place.node.table at g is ∙ ap (λ front. front ++ later_nodes nodes g) step.siblings
          ∙ ap (λ more. next ∷ more) (sym (later_nodes_some nodes place.node.table next g (same ∙ is)))

  -- siblings have the same groups round them
  pub groups_beside : (at bound next : ℕ) → IsPlace nodes at bound → IsNextSibling nodes at bound next → groups_round nodes at ≡ groups_round nodes next
  groups_beside at bound next place step = same_beyond at next (parent_at nodes at) place.node.table refl (beside at bound next place step)

  pub later_group : (at g : ℕ) → IsNode nodes at → later_siblings nodes at ≡ [] → Some g ≡ parent_at nodes at → later_nodes nodes at ≡ later_nodes nodes g
  later_group at g node none is = later_nodes_some nodes node.table at g (sym is) ∙ ap (λ front. front ++ later_nodes nodes g) none

  pub later_end : (at : ℕ) → IsNode nodes at → later_siblings nodes at ≡ [] → None ≡ parent_at nodes at → later_nodes nodes at ≡ []
  later_end at node none is = later_nodes_none nodes node.table at (sym is) ∙ none

  -- none of the nodes from a bound on lies below it
  none_below : (p q : ℕ → Bool) (bound n a : ℕ) → bound ≤ a → filter (λ j. p j && nat_lt j bound) (filter q (range_with_len a n)) ≡ []
  none_below p q bound zero a past = refl
  none_below p q bound (suc n) a past = elim (cases_Bool (q a)) [
    | inl passes ↦ rw passes (rw (and_right (p a) (nat_lt a bound) (le-ltb a bound past)) (none_below p q bound n (a + 1) (omega arith)))
    | inr fails ↦ rw fails (none_below p q bound n (a + 1) (omega arith))
  ]

  -- the mandatory nodes below a bound, node by node
  pub musts_yes : (reached at next : ℕ) → later_nodes nodes at ≡ next ∷ later_nodes nodes next → is_must_at nodes next ≡ true → next < reached → musts_left nodes reached at ≡ next ∷ musts_left nodes reached next
  musts_yes reached at next is must below =
      let passes : (is_must_at nodes next && nat_lt next reached) ≡ true = ap (λ b. b && nat_lt next reached) must ∙ lt-ltb next reached below in
      ap (filter (λ j. is_must_at nodes j && nat_lt j reached)) is
      ∙ ap (λ b. cond b (next ∷ musts_left nodes reached next) (musts_left nodes reached next)) passes

  pub musts_no : (reached at next : ℕ) → later_nodes nodes at ≡ next ∷ later_nodes nodes next → (is_must_at nodes next ≡ true → next < reached → ⊥) → musts_left nodes reached at ≡ musts_left nodes reached next
  musts_no reached at next is none =
      ap (filter (λ j. is_must_at nodes j && nat_lt j reached)) is
      ∙ ap (λ b. cond b (next ∷ musts_left nodes reached next) (musts_left nodes reached next)) (fails (is_must_at nodes next) refl)
    where
      fails : (must : Bool) → is_must_at nodes next ≡ must → (must && nat_lt next reached) ≡ false
      fails false must = refl
      fails true must = le-ltb next reached (⊎_elim (λ below. absurd (none must below)) (λ past. past) (cases_lt next reached))

  pub musts_none : (reached at : ℕ) → reached ≤ at → musts_left nodes reached at ≡ []
  unfolding later_nodes
  musts_none reached at past = none_below (is_must_at nodes) _ reached (length nodes - (at + 1)) (at + 1) (omega arith)

  -- what an iterator over candidates gives, from the list that it had left
  pub sibling_given : (first : Option ℕ) (at bound next there entry : ℕ) (value : List ℕ) → candidates_left nodes first at ≡ value → first ≡ None
      → IsPlace nodes at bound → IsNextSibling nodes at bound next → there ≡ next → entry ≡ entry_for nodes next → value ≡ entry ∷ candidates_left nodes first there
  sibling_given first at bound next there entry value left none place step to is =
      sym left ∙ ap (λ (f : Option ℕ). first_then f (outwards at)) none ∙ outward_sibling at bound next place step
      ∙ ap (λ (e : ℕ). e ∷ outwards next) (sym is) ∙ ap (λ (n : ℕ). entry ∷ outwards n) (sym to) ∙ ap (λ (f : Option ℕ). entry ∷ first_then f (outwards there)) (sym none)

  pub group_given : (first : Option ℕ) (at g there : ℕ) (value : List ℕ) → candidates_left nodes first at ≡ value → first ≡ None
      → IsNode nodes at → later_siblings nodes at ≡ [] → Some g ≡ parent_at nodes at → there ≡ g → value ≡ (g + 1) ∷ candidates_left nodes first there
  group_given first at g there value left none node last is to =
      sym left ∙ ap (λ (f : Option ℕ). first_then f (outwards at)) none ∙ outward_group at g node last is
      ∙ ap (λ (n : ℕ). (g + 1) ∷ outwards n) (sym to) ∙ ap (λ (f : Option ℕ). (g + 1) ∷ first_then f (outwards there)) (sym none)

  pub end_given : (first : Option ℕ) (at : ℕ) (value : List ℕ) → candidates_left nodes first at ≡ value → first ≡ None
      → IsNode nodes at → later_siblings nodes at ≡ [] → None ≡ parent_at nodes at → value ≡ []
  end_given first at value left none node last is =
      sym left ∙ ap (λ (f : Option ℕ). first_then f (outwards at)) none ∙ outward_end at node last is

  -- how much of a walk over the levels is left
  abbrev pub levels_left : ℕ → ℕ
  levels_left at = length (later_nodes nodes at) + length (groups_round nodes at)

  pub less_along : (at bound next : ℕ) → IsPlace nodes at bound → IsNextSibling nodes at bound next → levels_left next < levels_left at
  less_along at bound next place step =
      omega (arith, ap length (later_sibling at bound next place step), ap length (groups_beside at bound next place step))

  pub less_up : (at g : ℕ) → IsNode nodes at → later_siblings nodes at ≡ [] → Some g ≡ parent_at nodes at → levels_left g < levels_left at
  less_up at g node none is = omega (arith, ap length (later_group at g node none is), ap length (groups_more at g node is))
