-- Neighbours in the front of an entry: the later one is a candidate after the earlier one, and nothing is missing between them.
use Rattle.std.proofs.Common.{◌≡◌, ℕ, ◌+◌, ◌-◌, ◌<◌, ◌≤◌, Bool, true, false, List, [], ◌∷◌, Some, length, refl, sym, ap, subst, ◌∙◌, ⊎_elim, arith}
use Rattle.std.specs.Prelude.{nat_eq, nat_lt, not, ◌&&◌, ◌||◌, ◌==◌, filter, Contains, if◌then◌else◌}
use Rattle.std.specs.List.{All, list_any, list_all}
use Rattle.std.proofs.lemmas.Bool.{cond_both, cases_lt, eq-eqb, ne_eqb, eqb-true, ltb-true, or_cases, or_left, or_right, and_parts, and_from, false≢true, false_from_ne_true, not-true, not_from_false}
use Rattle.std.proofs.lemmas.List.Elements.{All-head, All-tail, All-weaker, Contains-append_right}
use Rattle.edi_tables.specs.declared.table.Node.{Node}
use Rattle.edi_tables.specs.Rows.{IsTable}
use Rattle.edi_tables.specs.Walk.{parent_at, end_at, is_must_at, is_group_at, is_trigger_at, is_repeat, reached_node, entry_for, are_siblings, groups_round, outward, candidates_of, later_nodes, missing_between}
use Rattle.edi_tables.specs.Collisions.{is_in_front}
use Rattle.edi_tables.proofs.TableLaws.{HasTableLaws, table_laws}
use Rattle.edi_tables.proofs.Places.{Passes, passing_each, AreNeighbours}
use Rattle.edi_tables.proofs.Stepping.{is_round, round_some, trigger_round}
use Rattle.edi_tables.proofs.Reaching.{inside_round, StandsFor, stands, in_outward, level_outer}
use Rattle.edi_tables.proofs.Placements.{repeat_round, round_below}

-- what all members pass, each one does
all_at : (test : ℕ → Bool) (groups : List ℕ) → list_all test groups ≡ true → (g : ℕ) → list_any (nat_eq g) groups ≡ true → test g ≡ true
all_at test [] all g some = absurd (false≢true some)
all_at test (h ∷ groups) all g some =
    let parts = and_parts (test h) (list_all test groups) all in
    ⊎_elim (λ same. ap test (eqb-true g h same) ∙ parts.0) (λ further. all_at test groups parts.1 g further) (or_cases (nat_eq g h) (list_any (nat_eq g) groups) some)

-- what each member passes, all do
all_from : (test : ℕ → Bool) (groups : List ℕ) → ((g : ℕ) → list_any (nat_eq g) groups ≡ true → test g ≡ true) → list_all test groups ≡ true
all_from test [] each = refl
all_from test (h ∷ groups) each =
    and_from (test h) (list_all test groups) (each h (or_left (nat_eq h h) (list_any (nat_eq h) groups) (eq-eqb h h refl)))
    (all_from test groups (λ g some. each g (or_right (nat_eq g h) (list_any (nat_eq g) groups) some)))

-- where each member fails, none is kept
filter_none : (p : ℕ → Bool) (xs : List ℕ) → All (λ x. p x ≡ false) xs → filter p xs ≡ []
filter_none p [] fails = refl
filter_none p (x ∷ xs) fails = rw (All-head (λ y. p y ≡ false) x xs fails) (filter_none p xs (All-tail (λ y. p y ≡ false) x xs fails))

module _ (nodes : List Node) (table : IsTable nodes) (f : ℕ) where
  laws : HasTableLaws nodes
  laws = table_laws nodes table

  -- a group on the way to f: mandatory, or round f
  abbrev is_way : ℕ → Bool
  is_way g = is_must_at nodes g || is_round nodes f g

  -- all groups round a node are on the way to f
  abbrev OnWay : ℕ → Type 0
  OnWay x = (g : ℕ) → is_round nodes x g ≡ true → is_way g ≡ true

  -- an entry of the front of f
  abbrev fronted : ℕ → Bool
  fronted = is_in_front nodes f

  -- it is no group
  pub front_entry : (x : ℕ) → fronted x ≡ true → is_group_at nodes x ≡ false
  front_entry x in_it = not-true (is_group_at nodes x) (and_parts (not (is_group_at nodes x)) _ in_it).0

  -- all groups round it are on the way
  front_way : (x : ℕ) → fronted x ≡ true → OnWay x
  front_way x in_it = ⊎_elim
      (λ same g round. or_right (is_must_at nodes g) (is_round nodes f g) (ap (λ (n : ℕ). is_round nodes n g) (sym (eqb-true x f same)) ∙ round))
      (λ must. all_at is_way (groups_round nodes x) (and_parts (is_must_at nodes x) (list_all is_way (groups_round nodes x)) must).1)
      (or_cases (x == f) (is_must_at nodes x && list_all is_way (groups_round nodes x)) (and_parts (not (is_group_at nodes x)) _ in_it).1)

  -- a mandatory entry on the way is in the front
  pub in_front : (x : ℕ) → is_group_at nodes x ≡ false → is_must_at nodes x ≡ true → OnWay x → fronted x ≡ true
  in_front x entry must way =
      and_from (not (is_group_at nodes x)) _ (not_from_false (is_group_at nodes x) entry)
      (or_right (x == f) (is_must_at nodes x && list_all is_way (groups_round nodes x)) (and_from (is_must_at nodes x) _ must (all_from is_way (groups_round nodes x) way)))

  -- and f itself does
  pub front_itself : is_group_at nodes f ≡ false → fronted f ≡ true
  front_itself entry =
      and_from (not (is_group_at nodes f)) _ (not_from_false (is_group_at nodes f) entry)
      (or_left (f == f) (is_must_at nodes f && list_all is_way (groups_round nodes f)) (eq-eqb f f refl))

  -- the trigger of a group on the way is in the front
  trigger_in_front : (g : ℕ) → is_group_at nodes g ≡ true → is_way g ≡ true → OnWay g → fronted (g + 1) ≡ true
  trigger_in_front g group here way =
      in_front (g + 1) (laws.trigger_is_entry g group) (laws.trigger_must g group)
      (λ h round. ⊎_elim (λ same. ap is_way same ∙ here) (λ further. way h further) (trigger_round nodes table g h group round))

  -- a mandatory node on the way has its entry in the front
  entry_in_front : (j : ℕ) → is_must_at nodes j ≡ true → OnWay j → fronted (entry_for nodes j) ≡ true
  entry_in_front j must way =
      cond_both (is_group_at nodes j) (j + 1) j (λ x. fronted x ≡ true)
      (λ group. trigger_in_front j group (or_left (is_must_at nodes j) (is_round nodes f j) must) way) (λ entry. in_front j entry must way)

  module _ (e next : ℕ) (sides : AreNeighbours (is_in_front nodes f) e next) (up_to : next ≤ f) where
    -- going to the later one repeats no group
    no_repeat : is_repeat nodes e next ≡ false
    no_repeat = false_from_ne_true (is_repeat nodes e next)
        (λ repeat. omega (arith, round_below nodes table e (next - 1) (repeat_round nodes table e next repeat), sides.less))

    -- the later one is not the earlier one
    not_itself : (next == e) ≡ false
    not_itself = ne_eqb next e (λ same. omega (arith, sides.less))

    -- an entry of the front before the later one comes no later than the earlier one
    not_between : (x : ℕ) → fronted x ≡ true → x < next → x ≤ e
    not_between x in_it below = ⊎_elim
        (λ past. absurd (false≢true (sym (sides.between x past below) ∙ in_it))) (λ low. low) (cases_lt e x)

    module _ (n : ℕ) (place : StandsFor nodes table n next) where
      -- the group that holds the node of the later one is round the earlier one
      holder_round : (h : ℕ) → parent_at nodes n ≡ Some h → is_round nodes e h ≡ true
      holder_round h up =
          let way : OnWay next = front_way next sides.other in
          let holds : (g : ℕ) → (is_round nodes h g ≡ true) → is_round nodes n g ≡ true =
          λ g round. round_some nodes table n h g up ∙ or_right (nat_eq g h) (is_round nodes h g) round in
          let here : is_round nodes n h ≡ true = round_some nodes table n h h up ∙ or_left (nat_eq h h) (is_round nodes h h) (eq-eqb h h refl) in
          let trigger : fronted (h + 1) ≡ true =
          trigger_in_front h (laws.parent_is_group n h up) (way h (place.outer h here)) (λ g round. way g (place.outer g (holds g round))) in
          let low : h + 1 ≤ e = not_between (h + 1) trigger (place.inner h up) in
          let high : e < n = place.later e (front_entry e sides.this) sides.less in
          inside_round nodes table h e (omega arith) (omega (arith, laws.before_parent_end n h up))

      -- going to the later one reaches its node
      reached_is : reached_node nodes e next ≡ n
      reached_is =
          ap (λ repeat. if repeat then end_at nodes (next - 1) else (if next == e then 0 else (if is_trigger_at nodes next then next - 1 else next))) no_repeat
          ∙ ap (λ itself. if itself then 0 else (if is_trigger_at nodes next then next - 1 else next)) not_itself ∙ place.reached

      -- no mandatory node is passed on the way
      none_passed : (j : ℕ) → e < j → list_any (λ i. nat_lt i j && are_siblings nodes i j) (e ∷ groups_round nodes e) ≡ true → (is_must_at nodes j && nat_lt j (reached_node nodes e next)) ≡ false
      none_passed j past level = false_from_ne_true (is_must_at nodes j && nat_lt j (reached_node nodes e next)) (λ passed.
          let parts = and_parts (is_must_at nodes j) (nat_lt j (reached_node nodes e next)) passed in
          let below : j < n = omega (arith, ltb-true j (reached_node nodes e next) parts.1, reached_is) in
          let way : OnWay j = λ g round. front_way e sides.this g (level_outer nodes table (groups_round nodes e) e j refl level g round) in
          let low : entry_for nodes j ≤ e = not_between (entry_for nodes j) (entry_in_front j parts.0 way) (place.before j below) in
          let up : j ≤ entry_for nodes j = cond_both (is_group_at nodes j) (j + 1) j (λ x. j ≤ x) (λ _. omega arith) (λ _. omega arith) in
          omega arith)

      -- so nothing is missing
      nothing_missing : missing_between nodes e next ≡ []
      unfolding missing_between later_nodes
      nothing_missing =
          let count : ℕ = length nodes - (e + 1) in
          let level : ℕ → Bool = λ j. list_any (λ i. nat_lt i j && are_siblings nodes i j) (e ∷ groups_round nodes e) in
          filter_none _ (later_nodes nodes e)
          (All-weaker (Passes level (e + 1) (e + 1 + count)) (λ j. (is_must_at nodes j && nat_lt j (reached_node nodes e next)) ≡ false)
          (λ j here. none_passed j (omega (arith, here.0)) here.2) (later_nodes nodes e) (passing_each level count (e + 1) (e + 1 + count) refl))

      -- the later one is a candidate after the earlier one
      next_candidate : n < length nodes → Contains (candidates_of nodes e) next
      unfolding candidates_of
      next_candidate within =
          Contains-append_right (if is_trigger_at nodes e then [] else e ∷ []) (outward nodes e (groups_round nodes e)) next
          (subst (Contains (outward nodes e (groups_round nodes e))) place.entered
          (in_outward nodes table (groups_round nodes e) e n refl (place.later e (front_entry e sides.this) sides.less) within holder_round))

    -- the later one of two neighbours is a candidate after the earlier one, none of a repeat, and nothing is missing
    pub record IsNextCandidate : Type 0 where
      pub candidate : Contains (candidates_of nodes e) next
      pub repeats : is_repeat nodes e next ≡ false
      pub differs : (next == e) ≡ false
      pub missing : missing_between nodes e next ≡ []

    -- and all this holds of two neighbours
    pub next_is : f < length nodes → IsNextCandidate
    next_is within =
        let place = stands nodes table next (front_entry next sides.other) in
        record {
          candidate = next_candidate place.0 place.1 (omega (arith, place.1.low));
          repeats = no_repeat;
          differs = not_itself;
          missing = nothing_missing place.0 place.1;
        }
