-- A mandatory node of the base that a step passes is passed in the narrowed table too.
use Rattle.std.proofs.Common.{◌≡◌, ℕ, ◌+◌, ◌-◌, ◌<◌, Bool, true, false, List, [], ◌∷◌, Option, Some, None, length, refl, sym, ap, ◌∙◌, inl, inr, arith}
use Rattle.std.specs.Prelude.{Contains, nat_lt, ◌==◌, ◌&&◌, if◌then◌else◌}
use Rattle.std.specs.List.{list_any, range_with_len}
use Rattle.std.specs.Option.{option_map}
use Rattle.std.proofs.lemmas.Bool.{and_from, and_parts, eqb-true, false≢true, lt-ltb, ltb-true}
use Rattle.std.proofs.lemmas.List.Elements.{All-cons, All-contains}
use Rattle.std.proofs.lemmas.Option.{none-some, same_Some}
use Rattle.edi_tables.specs.declared.table.Node.{Node}
use Rattle.edi_tables.specs.Rows.{IsTable}
use Rattle.edi_tables.specs.Walk.{parent_at, is_must_at, end_at, is_group_at, are_siblings, is_trigger_of, is_trigger_at, groups_round, later_nodes, is_repeat, reached_node, missing_between, missing_past}
use Rattle.edi_tables.proofs.Depths.{some_or_none}
use Rattle.edi_tables.proofs.GroupLaws.{groups_within}
use Rattle.edi_tables.proofs.Placements.{repeat_round}
use Rattle.edi_tables.proofs.Reaching.{inside_round, round_ends}
use Rattle.edi_tables.proofs.Stepping.{is_round, same_parent}
use Rattle.edi_tables.proofs.TableLaws.{HasTableLaws, table_laws}
use Rattle.edi_tables.proofs.Walking.{siblings_same}
use Rattle.guide_overlay.specs.Narrows.{Narrows}
use Rattle.guide_overlay.proofs.GroupsKept.{any_map, to_back, to_once, same_kept, trigger_next, groups_kept, trigger_kept, round_kept, repeat_kept}
use Rattle.guide_overlay.proofs.ListMembers.{in_range, of_range, in_filter, of_filter, none_in, not_in, any_found, any_member}

module _ (base nodes : List Node) (to : ℕ → ℕ) (narrows : Narrows base nodes to) where
  -- two groups that are the same in the base are the same
  parents_once : (one two : Option ℕ) → option_map to one ≡ option_map to two → one ≡ two
  parents_once None None same = refl
  parents_once None (Some h) same = absurd (none-some (to h) same)
  parents_once (Some g) None same = absurd (none-some (to g) (sym same))
  parents_once (Some g) (Some h) same = ap Some (to_once base nodes to narrows g h (same_Some (to g) (to h) same))

  module _ (outer : IsTable base) (inner : IsTable nodes) where
    laws : HasTableLaws nodes
    laws = table_laws nodes inner

    -- j comes later than a level
    abbrev is_later : List Node → ℕ → ℕ → Bool
    is_later of j i = nat_lt i j && are_siblings of i j

    -- a mandatory sibling of a node that is left is left
    sibling_left : (k j : ℕ) → k < length nodes → j < length base → is_must_at base j ≡ true → parent_at base j ≡ option_map to (parent_at nodes k) → (i : ℕ) × (i < length nodes) × (to i ≡ j)
    sibling_left k j within inside must same =
        narrows.left j inside must (elim (some_or_none (parent_at nodes k)) [
          | inl none ↦ inl (same ∙ ap (option_map to) none)
          | inr some ↦ inr (some.0, omega (arith, laws.parent_before k some.0 some.1, laws.held_within k some.0 some.1), same ∙ ap (option_map to) some.1)
        ])

    -- where j comes later in the base than the level of a node that is left
    record ComesLater (f j : ℕ) : Type 0 where
      past : to f < j
      inside : j < length base
      level : ℕ
      here : Contains (f ∷ groups_round nodes f) level
      within : level < length nodes
      later : to level < j
      same : parent_at base j ≡ option_map to (parent_at nodes level)

    comes_later : (f j : ℕ) → f < length nodes → Contains (later_nodes base (to f)) j → ComesLater f j
    unfolding later_nodes
    comes_later f j f_within found =
        let levels : List ℕ = f ∷ groups_round nodes f in
        let parts = of_filter (λ j. list_any (λ i. nat_lt i j && are_siblings base i j) (to f ∷ groups_round base (to f))) (range_with_len (to f + 1) (length base - (to f + 1))) j found in
        let bounds = of_range (to f + 1) (length base - (to f + 1)) j parts.0 in
        let moved : list_any (λ k. is_later base j (to k)) levels ≡ list_any (is_later base j) (to f ∷ groups_round base (to f)) =
        sym (any_map (is_later base j) to levels) ∙ ap (λ groups. list_any (is_later base j) (to f ∷ groups)) (sym (groups_kept base nodes to narrows outer inner f f_within)) in
        let some : list_any (λ k. is_later base j (to k)) levels ≡ true = moved ∙ parts.1 in
        let level = any_found (λ k. is_later base j (to k)) levels some in
        let tests = and_parts (nat_lt (to level.0) j) (are_siblings base (to level.0) j) level.2 in
        let within : level.0 < length nodes = All-contains (λ g. g < length nodes) levels level.0 (All-cons (λ g. g < length nodes) f (groups_round nodes f) f_within (groups_within nodes laws f)) level.1 in
        record {
          past = omega (arith, bounds.0);
          inside = omega (arith, bounds.0, bounds.1);
          level = level.0;
          here = level.1;
          within = within;
          later = ltb-true (to level.0) j tests.0;
          same = sym (same_parent (parent_at base (to level.0)) (parent_at base j) tests.1) ∙ narrows.parent level.0 within;
        }

    -- a node of a later level comes later
    comes_here : (f k i : ℕ) → f < i → i < length nodes → Contains (f ∷ groups_round nodes f) k → k < i → parent_at nodes k ≡ parent_at nodes i → Contains (later_nodes nodes f) i
    unfolding later_nodes
    comes_here f k i past within level later siblings =
        in_filter (λ j. list_any (λ i. nat_lt i j && are_siblings nodes i j) (f ∷ groups_round nodes f)) (range_with_len (f + 1) (length nodes - (f + 1))) i
        (in_range (f + 1) (length nodes - (f + 1)) i (omega arith) (omega arith))
        (any_member (is_later nodes i) (f ∷ groups_round nodes f) k level (and_from _ _ (lt-ltb k i later) (siblings_same nodes k i siblings)))

    -- the mandatory nodes of the base that come later are nodes that come later
    pub later_back : (f j : ℕ) → f < length nodes → Contains (later_nodes base (to f)) j → is_must_at base j ≡ true → (i : ℕ) × (i < length nodes) × (to i ≡ j) × Contains (later_nodes nodes f) i
    later_back f j f_within found must =
        let comes = comes_later f j f_within found in
        let left = sibling_left comes.level j comes.within comes.inside must comes.same in
        let i : ℕ = left.0 in
        let after : f < i = to_back base nodes to narrows f i (omega (arith, comes.past, left.2)) in
        let later : comes.level < i = to_back base nodes to narrows comes.level i (omega (arith, comes.later, left.2)) in
        let siblings : parent_at nodes comes.level ≡ parent_at nodes i =
        parents_once (parent_at nodes comes.level) (parent_at nodes i) (sym comes.same ∙ ap (parent_at base) (sym left.2) ∙ narrows.parent i left.1) in
        (i, left.1, left.2, comes_here f comes.level i after left.1 comes.here later siblings)

    -- a trigger is the node after a group
    trigger_of : (c : ℕ) (found : Option ℕ) → parent_at nodes c ≡ found → is_trigger_of found c ≡ true → (g : ℕ) × (g + 1 ≡ c) × (is_group_at nodes g ≡ true)
    trigger_of c None up trigger = absurd (false≢true trigger)
    trigger_of c (Some g) up trigger = (g, eqb-true (g + 1) c trigger, laws.parent_is_group c g up)

    -- the group whose trigger c is, and where both are in the base
    pub group_of : (c : ℕ) → is_trigger_at nodes c ≡ true → (g : ℕ) × (c - 1 ≡ g) × (to c - 1 ≡ to g) × (is_group_at nodes g ≡ true)
    group_of c trigger =
        let found = trigger_of c (parent_at nodes c) refl trigger in
        let next = trigger_next base nodes to narrows outer inner found.0 found.2 in
        let there : to c ≡ to found.0 + 1 = ap to (sym found.1) ∙ next in
        (found.0, omega (arith, found.1), omega arith, found.2)

    -- the node that is reached, by the three tests
    abbrev reached_by : (repeat own trigger : Bool) → (end c : ℕ) → ℕ
    reached_by repeat own trigger end c = if repeat then end else (if own then 0 else (if trigger then c - 1 else c))

    inside_group : (f g i : ℕ) → f < i → i < length nodes → is_round nodes f g ≡ true → to i < end_at base (to g) → i < end_at nodes g
    inside_group f g i past within round below =
        let before : g < i = omega (arith, (round_ends nodes inner f g round).0) in
        let there : is_round base (to i) (to g) ≡ true = inside_round base outer (to g) (to i) (narrows.rises g i before) below in
        let ends = round_ends nodes inner i g (sym (round_kept base nodes to narrows outer inner i g within) ∙ there) in
        omega (arith, ends.1, laws.end_after i within)

    module _ (f c i : ℕ) (past : f < i) (within : i < length nodes) where
      reached_step : (repeat own trigger : Bool) → is_repeat nodes f c ≡ repeat → is_trigger_at nodes c ≡ trigger
          → to i < reached_by repeat own trigger (end_at base (to c - 1)) (to c) → i < reached_by repeat own trigger (end_at nodes (c - 1)) c
      reached_step true own trigger repeat _ below =
          let group = group_of c (and_parts (is_trigger_at nodes c) _ repeat).0 in
          let round : is_round nodes f group.0 ≡ true = ap (is_round nodes f) (sym group.1) ∙ repeat_round nodes inner f c repeat in
          let here : i < end_at nodes group.0 = inside_group f group.0 i past within round (omega (arith, below, ap (end_at base) group.2)) in
          omega (arith, here, ap (end_at nodes) group.1)
      reached_step false true trigger _ _ below = absurd (omega arith)
      reached_step false false true _ is below =
          let group = group_of c is in
          let here : i < group.0 = to_back base nodes to narrows i group.0 (omega (arith, below, group.2)) in
          omega (arith, here, group.1)
      reached_step false false false _ _ below = to_back base nodes to narrows i c below

      -- what lies before the node that is reached in the base lies before it
      reached_back : f < length nodes → c < length nodes → to i < reached_node base (to f) (to c) → i < reached_node nodes f c
      reached_back f_within c_within below =
          let end : ℕ = end_at base (to c - 1) in
          let same : reached_node base (to f) (to c) ≡ reached_by (is_repeat nodes f c) (c == f) (is_trigger_at nodes c) end (to c) =
          ap (λ b. reached_by b (to c == to f) (is_trigger_at base (to c)) end (to c)) (repeat_kept base nodes to narrows outer inner f c f_within c_within)
          ∙ ap (λ b. reached_by (is_repeat nodes f c) b (is_trigger_at base (to c)) end (to c)) (same_kept base nodes to narrows c f)
          ∙ ap (λ b. reached_by (is_repeat nodes f c) (c == f) b end (to c)) (trigger_kept base nodes to narrows outer inner c c_within) in
          reached_step (is_repeat nodes f c) (c == f) (is_trigger_at nodes c) refl refl (omega (arith, below, same))

    module _ (f : ℕ) (f_within : f < length nodes) where
      later_past : (i : ℕ) → Contains (later_nodes nodes f) i → f < i
      unfolding later_nodes
      later_past i found =
          let parts = of_filter (λ j. list_any (λ i. nat_lt i j && are_siblings nodes i j) (f ∷ groups_round nodes f)) (range_with_len (f + 1) (length nodes - (f + 1))) i found in
          omega (arith, (of_range (f + 1) (length nodes - (f + 1)) i parts.0).0)

      -- where nothing is missing on the way to a candidate, nothing is by the base
      pub missing_kept : (c : ℕ) → c < length nodes → missing_between nodes f c ≡ [] → missing_between base (to f) (to c) ≡ []
      unfolding missing_between
      missing_kept c within none =
          none_in (missing_between base (to f) (to c)) (λ j found.
          let parts = of_filter (λ j. is_must_at base j && nat_lt j (reached_node base (to f) (to c))) (later_nodes base (to f)) j found in
          let tests = and_parts (is_must_at base j) _ parts.1 in
          let back = later_back f j f_within parts.0 tests.0 in
          let i : ℕ = back.0 in
          let must : is_must_at nodes i ≡ true = narrows.must i back.1 (ap (is_must_at base) back.2 ∙ tests.0) in
          let below : i < reached_node nodes f c = reached_back f c i (later_past i back.3) back.1 f_within within (omega (arith, ltb-true j (reached_node base (to f) (to c)) tests.1, back.2)) in
          not_in (missing_between nodes f c) i none
          (in_filter (λ j. is_must_at nodes j && nat_lt j (reached_node nodes f c)) (later_nodes nodes f) i back.3 (and_from _ _ must (lt-ltb i (reached_node nodes f c) below))))

      -- and the same of what is left up to the table's end
      pub past_kept : missing_past nodes f ≡ [] → missing_past base (to f) ≡ []
      unfolding missing_past
      past_kept none =
          none_in (missing_past base (to f)) (λ j found.
          let parts = of_filter (is_must_at base) (later_nodes base (to f)) j found in
          let back = later_back f j f_within parts.0 parts.1 in
          let must : is_must_at nodes back.0 ≡ true = narrows.must back.0 back.1 (ap (is_must_at base) back.2 ∙ parts.1) in
          not_in (missing_past nodes f) back.0 none (in_filter (is_must_at nodes) (later_nodes nodes f) back.0 back.3 must))
