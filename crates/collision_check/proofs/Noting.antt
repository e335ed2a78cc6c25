-- Where each candidate up to the first mandatory one has a tag that was not seen before, no two followers share one.
use Rattle.std.proofs.Common.{◌≡◌, ℕ, zero, suc, ◌+◌, ◌-◌, ◌<◌, ◌≤◌, Bool, true, false, cond, List, [], ◌∷◌, ◌++◌, Option, Some, None, length, take, get_or, refl, sym, ap, subst, ◌∙◌, ◌⊎◌, inl, inr, ⊎_elim, append_assoc, arith}
use Rattle.std.specs.Prelude.{filter, nat_eq, nat_lt, not, slice_index, ◌==◌, ◌&&◌, ◌||◌, if◌then◌else◌}
use Rattle.std.specs.List.{All, list_any}
use Rattle.std.specs.Str.{bytes_eq}
use Rattle.std.proofs.lemmas.Bool.{cases_Bool, cases_eq, cond_both, false≢true, eq-eqb, eqb-true, ne_eqb, or_left, or_right}
use Rattle.std.proofs.lemmas.List.Elements.{All-nil, All-cons, All-head, All-tail, All-append, All-filter, All-weaker, All-get_or}
use Rattle.std.proofs.lemmas.Slice.Eq.{bytes_eq-Decides}
use Rattle.edi_tables.specs.declared.tag.Tag.{Tag}
use Rattle.edi_tables.specs.declared.table.Node.{Node}
use Rattle.edi_tables.specs.Filled.{is_filled}
use Rattle.edi_tables.specs.Places.{IsPlace, IsNextSibling, musts_left}
use Rattle.edi_tables.specs.Rows.{IsTable}
use Rattle.edi_tables.specs.Walk.{tag_at, parent_at, is_must_at, end_at, entry_for, is_group_at, is_trigger_of, is_trigger_at, later_siblings, groups_round, outward, itself, candidates_of, later_nodes, is_repeat, reached_node, missing_between}
use Rattle.edi_tables.specs.Collisions.{are_same_tag, have_same_tag, may_come_again, is_follower, followers_of, pair_with, pair_at, shared_pairs}
use Rattle.edi_tables.proofs.Ahead.{own_round}
use Rattle.edi_tables.proofs.Distinct.{IsLater, level, level_later}
use Rattle.edi_tables.proofs.MissingLaws.{musts_between}
use Rattle.edi_tables.proofs.PlaceLaws.{later_sibling, later_group, musts_yes, musts_no, outward_sibling, outward_group, outward_end, groups_beside}
use Rattle.edi_tables.proofs.Reaching.{trigger_is, inner_round}
use Rattle.edi_tables.proofs.Rising.{not_repeat}
use Rattle.edi_tables.proofs.Stepping.{is_round, parent_of_round}
use Rattle.edi_tables.proofs.TableLaws.{HasTableLaws, table_laws}
use Rattle.collision_check.specs.declared.ranks.Ranks.{Ranks}
use Rattle.collision_check.specs.Ranks.{IsNoted, IsSeen, IsUnseen, is_seen}
use Rattle.collision_check.proofs.AllDiffer.{filter_fails, none_made}

-- no member has the tag of one before it
abbrev pub Differ : List Node → List ℕ → Type 0
Differ nodes [] = Unit {0}
Differ nodes (x ∷ xs) = All (λ y. have_same_tag nodes y x ≡ false) xs × Differ nodes xs

module _ (nodes : List Node) where
  differ_push : (xs : List ℕ) (c : ℕ) → Differ nodes xs → All (λ x. have_same_tag nodes c x ≡ false) xs → Differ nodes (xs ++ c ∷ [])
  differ_push [] c differ new = (All-nil (λ y. have_same_tag nodes y c ≡ false), tt)
  differ_push (x ∷ xs) c differ new = (
    All-append (λ y. have_same_tag nodes y x ≡ false) xs (c ∷ []) differ.0
        (All-cons (λ y. have_same_tag nodes y x ≡ false) c [] (All-head (λ x. have_same_tag nodes c x ≡ false) x xs new) (All-nil (λ y. have_same_tag nodes y x ≡ false))),
    differ_push xs c differ.1 (All-tail (λ x. have_same_tag nodes c x ≡ false) x xs new),
  )

  differ_filter : (p : ℕ → Bool) (xs : List ℕ) → Differ nodes xs → Differ nodes (filter p xs)
  differ_filter p [] differ = tt
  differ_filter p (x ∷ xs) differ =
      cond_both (p x) (x ∷ filter p xs) (filter p xs) (Differ nodes)
      (λ _. (All-filter p (λ y. have_same_tag nodes y x ≡ false) xs differ.0, differ_filter p xs differ.1)) (λ _. differ_filter p xs differ.1)

  differ_take : (xs : List ℕ) (j : ℕ) → j < length xs → Differ nodes xs → All (λ x. have_same_tag nodes (get_or xs j 0) x ≡ false) (take j xs)
  differ_take [] j within differ = absurd (omega arith)
  differ_take (x ∷ xs) zero within differ = All-nil (λ y. have_same_tag nodes x y ≡ false)
  differ_take (x ∷ xs) (suc j) within differ =
      All-cons (λ y. have_same_tag nodes (get_or xs j 0) y ≡ false) x (take j xs)
      (All-get_or (λ y. have_same_tag nodes y x ≡ false) xs j 0 (omega arith) differ.0) (differ_take xs j (omega arith) differ.1)

  no_pair : (xs : List ℕ) → Differ nodes xs → (j : ℕ) → j < length xs → pair_at nodes xs j ≡ []
  no_pair xs differ j below =
      ap (λ (before : List ℕ). pair_with before (slice_index xs j))
      (filter_fails (have_same_tag nodes (slice_index xs j)) (take j xs) (differ_take xs j below differ))

  -- where all tags differ, none is shared
  none_shared : (xs : List ℕ) → Differ nodes xs → shared_pairs nodes xs ≡ []
  unfolding shared_pairs
  none_shared xs differ = none_made (pair_at nodes xs) (length xs) 0 (λ j from below. no_pair xs differ j (omega arith))

  module _ (ranks : Ranks) (seen : List Bool) where
    new_tag : (one other : Option Tag) → IsUnseen ranks seen one → IsSeen ranks seen other → are_same_tag one other ≡ false
    new_tag None other fresh known = refl
    new_tag (Some t) None fresh known = refl
    new_tag (Some t) (Some u) fresh known = elim (cases_Bool (bytes_eq t.octets u.octets)) [
      | inl same ↦ absurd (false≢true (sym fresh ∙ ap (λ (o : List ℕ). is_seen ranks seen (record { octets = o })) ((bytes_eq-Decides t.octets u.octets).0 same) ∙ known))
      | inr other ↦ other
    ]

    new_each : (c : ℕ) (xs : List ℕ) → IsUnseen ranks seen (tag_at nodes c) → All (λ x. IsSeen ranks seen (tag_at nodes x)) xs → All (λ x. have_same_tag nodes c x ≡ false) xs
    new_each c xs fresh known =
        All-weaker (λ x. IsSeen ranks seen (tag_at nodes x)) (λ x. have_same_tag nodes c x ≡ false) (λ x here. new_tag (tag_at nodes c) (tag_at nodes x) fresh here) xs known

filter_rest : (p : ℕ → Bool) (xs ys : List ℕ) → filter p ys ≡ [] → filter p (xs ++ ys) ≡ filter p xs
filter_rest p [] ys none = none
filter_rest p (x ∷ xs) ys none = ap (λ rest. cond (p x) (x ∷ rest) rest) (filter_rest p xs ys none)

both : (a b : Bool) → a ≡ true → b ≡ true → (a && b) ≡ true
both true b one two = two
both false b one two = one

any_next : (g : ℕ) (groups : List ℕ) → list_any (nat_eq g) groups ≡ true → list_any (λ h. h + 1 == g + 1) groups ≡ true
any_next g [] some = absurd (false≢true some)
any_next g (h ∷ groups) some = elim (cases_eq g h) [
  | inl same ↦ or_left (h + 1 == g + 1) _ (eq-eqb (h + 1) (g + 1) (omega arith))
  | inr differ ↦ or_right (h + 1 == g + 1) _ (any_next g groups (sym (ap (λ b. b || list_any (nat_eq g) groups) (ne_eqb g h differ)) ∙ some))
]

-- after a mandatory node s that is left later than f, none follows f
module _ (nodes : List Node) (table : IsTable nodes) (f : ℕ) (inside : f < length nodes) (s : ℕ) (past : f < s) (within : s < length nodes)
    (outer : (h : ℕ) → is_round nodes s h ≡ true → is_round nodes f h ≡ true) where
  laws : HasTableLaws nodes
  laws = table_laws nodes table

  own_trigger : (d : ℕ) (found : Option ℕ) → parent_at nodes d ≡ found → is_trigger_of found d ≡ true → end_at nodes s ≤ d → s < d - 1
  own_trigger d None up is far = absurd (false≢true is)
  own_trigger d (Some g) up is far =
      let here : g + 1 ≡ d = eqb-true (g + 1) d is in
      let inner : d < end_at nodes g = laws.before_parent_end d g up in
      let low : s < end_at nodes s = laws.end_after s within in
      ⊎_elim (λ same. absurd (omega (arith, ap (end_at nodes) same))) (λ other. omega arith) (same_or g)
    where
      same_or : (g : ℕ) → (g ≡ s) ⊎ (g ≡ s → ⊥)
      same_or g = elim (cases_Bool (nat_eq g s)) [
        | inl same ↦ inl (eqb-true g s same)
        | inr other ↦ inr (λ is. false≢true (sym other ∙ eq-eqb g s is))
      ]

  later_reached : (d : ℕ) → end_at nodes s ≤ d → s < reached_node nodes f d
  later_reached d far =
      let low : s < end_at nodes s = laws.end_after s within in
      let once : is_repeat nodes f d ≡ false = not_repeat nodes table f inside d (omega arith) in
      let is : reached_node nodes f d ≡ (if is_trigger_at nodes d then d - 1 else d) =
      ap (λ b. if b then end_at nodes (d - 1) else (if d == f then 0 else (if is_trigger_at nodes d then d - 1 else d))) once
      ∙ ap (λ b. if b then 0 else (if is_trigger_at nodes d then d - 1 else d)) (ne_eqb d f (λ same. omega arith)) in
      subst (λ (n : ℕ). s < n) (sym is)
      (cond_both (is_trigger_at nodes d) (d - 1) d (λ n. s < n) (λ trigger. own_trigger d (parent_at nodes d) refl trigger far) (λ _. omega arith))

  group_reached : (g : ℕ) → is_group_at nodes g ≡ true → is_round nodes f g ≡ true → end_at nodes s ≤ end_at nodes g → s < reached_node nodes f (g + 1)
  group_reached g group round far =
      let low : s < end_at nodes s = laws.end_after s within in
      let repeat : is_repeat nodes f (g + 1) ≡ true = both (is_trigger_at nodes (g + 1)) (list_any (λ h. h + 1 == g + 1) (groups_round nodes f)) (trigger_is nodes table g group) (any_next g (groups_round nodes f) round) in
      let is : reached_node nodes f (g + 1) ≡ end_at nodes g =
      ap (λ b. if b then end_at nodes ((g + 1) - 1) else (if g + 1 == f then 0 else (if is_trigger_at nodes (g + 1) then (g + 1) - 1 else g + 1))) repeat
      ∙ (let back : (g + 1) - 1 ≡ g = omega arith in ap (end_at nodes) back) in
      omega (arith, is)

  passed_each : (groups : List ℕ) (i : ℕ) → groups ≡ groups_round nodes i → end_at nodes s ≤ end_at nodes i → ((g : ℕ) → is_round nodes i g ≡ true → is_round nodes f g ≡ true) → All (λ d. s < reached_node nodes f d) (outward nodes i groups)
  passed_each [] i is far round =
      All-weaker (IsLater nodes table i) (λ d. s < reached_node nodes f d) (λ d later. later_reached d (omega (arith, later.0))) (level nodes table i) (level_later nodes table i)
  passed_each (g ∷ groups) i is far round =
      let up = parent_of_round nodes table i g groups (parent_at nodes i) refl is in
      let wide : end_at nodes s ≤ end_at nodes g = omega (arith, laws.end_in_parent i g up.0) in
      All-append (λ d. s < reached_node nodes f d) (level nodes table i) ((g + 1) ∷ outward nodes g groups)
      (All-weaker (IsLater nodes table i) (λ d. s < reached_node nodes f d) (λ d later. later_reached d (omega (arith, later.0))) (level nodes table i) (level_later nodes table i))
      (All-cons (λ d. s < reached_node nodes f d) (g + 1) (outward nodes g groups) (group_reached g (laws.parent_is_group i g up.0) (round g (own_round nodes table i g up.0)) wide)
      (passed_each groups g up.1 wide (λ h inner. round h (inner_round nodes table i g h (own_round nodes table i g up.0) inner))))

  passed : All (λ d. s < reached_node nodes f d) (outward nodes s (groups_round nodes s))
  passed = passed_each (groups_round nodes s) s refl (omega arith) outer

  no_follower : (at : ℕ) → later_nodes nodes at ≡ s ∷ later_nodes nodes s → is_must_at nodes s ≡ true → ((n : ℕ) → musts_left nodes n f ≡ musts_left nodes n at)
      → (d : ℕ) → s < reached_node nodes f d → is_follower nodes f d ≡ false
  no_follower at later must skips d far =
      let reached : ℕ = reached_node nodes f d in
      let missing : missing_between nodes f d ≡ s ∷ musts_left nodes reached s =
      sym (musts_between nodes reached f d refl) ∙ skips reached ∙ musts_yes nodes reached at s later must far in
      ap (λ (xs : List ℕ). not (is_filled xs) && may_come_again nodes f d) missing

  none_after : (at : ℕ) → later_nodes nodes at ≡ s ∷ later_nodes nodes s → is_must_at nodes s ≡ true → ((n : ℕ) → musts_left nodes n f ≡ musts_left nodes n at)
      → filter (is_follower nodes f) (outward nodes s (groups_round nodes s)) ≡ []
  none_after at later must skips =
      filter_fails (is_follower nodes f) (outward nodes s (groups_round nodes s))
      (All-weaker (λ d. s < reached_node nodes f d) (λ d. is_follower nodes f d ≡ false) (no_follower at later must skips) (outward nodes s (groups_round nodes s)) passed)

-- a walk outwards of f that is at a node: each candidate up to there was noted, and none had a tag seen before
pub record IsWalked (nodes : List Node) (ranks : Ranks) (f at bound : ℕ) (seen : List Bool) : Type 0 where
  pub place : IsPlace nodes at bound
  pub past : f < end_at nodes at
  pub outer : (h : ℕ) → is_round nodes at h ≡ true → is_round nodes f h ≡ true
  pub skips : (n : ℕ) → musts_left nodes n f ≡ musts_left nodes n at
  pub met : List ℕ
  pub whole : candidates_of nodes f ≡ met ++ outward nodes at (groups_round nodes at)
  pub differ : Differ nodes met
  pub known : All (λ x. IsSeen ranks seen (tag_at nodes x)) met

module _ (nodes : List Node) (ranks : Ranks) (f : ℕ) where
  known_more : (met : List ℕ) (c : ℕ) (old new : List Bool) → IsNoted ranks (tag_at nodes c) old new true → All (λ x. IsSeen ranks old (tag_at nodes x)) met → All (λ x. IsSeen ranks new (tag_at nodes x)) (met ++ c ∷ [])
  known_more met c old new noted known =
      All-append (λ x. IsSeen ranks new (tag_at nodes x)) met (c ∷ [])
      (All-weaker (λ x. IsSeen ranks old (tag_at nodes x)) (λ x. IsSeen ranks new (tag_at nodes x)) (λ x here. noted.kept (tag_at nodes x) here) met known)
      (All-cons (λ x. IsSeen ranks new (tag_at nodes x)) c [] noted.here (All-nil (λ x. IsSeen ranks new (tag_at nodes x))))

  whole_more : (met : List ℕ) (c : ℕ) (left more : List ℕ) → candidates_of nodes f ≡ met ++ left → left ≡ c ∷ more → candidates_of nodes f ≡ (met ++ c ∷ []) ++ more
  whole_more met c left more whole is = rw append_assoc (whole ∙ ap (λ (xs : List ℕ). met ++ xs) is)

  -- the walk begins at f
  pub walk_begin : (bound : ℕ) (seen : List Bool) → IsPlace nodes f bound → (is_trigger_at nodes f ≡ false → IsSeen ranks seen (tag_at nodes f)) → IsWalked nodes ranks f f bound seen
  unfolding candidates_of
  walk_begin bound seen place here = record {
    place = place;
    past = (table_laws nodes place.node.table).end_after f place.node.within;
    outer = λ h round. round;
    skips = λ n. refl;
    met = itself nodes f;
    whole = refl;
    differ = cond_both (is_trigger_at nodes f) [] (f ∷ []) (Differ nodes) (λ _. tt) (λ _. (All-nil (λ y. have_same_tag nodes y f ≡ false), tt));
    known = cond_both (is_trigger_at nodes f) [] (f ∷ []) (All (λ x. IsSeen ranks seen (tag_at nodes x)))
        (λ _. All-nil (λ x. IsSeen ranks seen (tag_at nodes x)))
        (λ plain. All-cons (λ x. IsSeen ranks seen (tag_at nodes x)) f [] (here plain) (All-nil (λ x. IsSeen ranks seen (tag_at nodes x))));
  }

  -- where all that were met differ and none of the others follows f, no tag is shared
  none_by : (met rest : List ℕ) → candidates_of nodes f ≡ met ++ rest → Differ nodes met → filter (is_follower nodes f) rest ≡ [] → shared_pairs nodes (followers_of nodes f) ≡ []
  unfolding followers_of
  none_by met rest whole differ none =
      ap (shared_pairs nodes) (ap (filter (is_follower nodes f)) whole ∙ filter_rest (is_follower nodes f) met rest none)
      ∙ none_shared nodes (filter (is_follower nodes f) met) (differ_filter nodes (is_follower nodes f) met differ)

  module _ (at bound : ℕ) (old new : List Bool) (walked : IsWalked nodes ranks f at bound old) where
    table : IsTable nodes
    table = walked.place.node.table

    ends : HasTableLaws nodes
    ends = table_laws nodes table

    module _ (next : ℕ) (step : IsNextSibling nodes at bound next) (noted : IsNoted ranks (tag_at nodes (entry_for nodes next)) old new true) where
      groups : groups_round nodes at ≡ groups_round nodes next
      groups = groups_beside nodes at bound next walked.place step

      later_past : f < next
      later_past = omega (arith, step.end, walked.past)

      round_next : (h : ℕ) → is_round nodes next h ≡ true → is_round nodes f h ≡ true
      round_next h round = walked.outer h (ap (list_any (nat_eq h)) groups ∙ round)

      abbrev met_next : List ℕ
      met_next = walked.met ++ entry_for nodes next ∷ []

      whole_next : candidates_of nodes f ≡ met_next ++ outward nodes next (groups_round nodes next)
      whole_next = whole_more walked.met (entry_for nodes next) (outward nodes at (groups_round nodes at)) (outward nodes next (groups_round nodes next)) walked.whole (outward_sibling nodes at bound next walked.place step)

      differ_next : Differ nodes met_next
      differ_next = differ_push nodes walked.met (entry_for nodes next) walked.differ (new_each nodes ranks old (entry_for nodes next) walked.met (noted.fresh refl) walked.known)

      later : later_nodes nodes at ≡ next ∷ later_nodes nodes next
      later = later_sibling nodes at bound next walked.place step

      -- it goes along to an optional sibling
      pub walk_along : is_must_at nodes next ≡ false → IsWalked nodes ranks f next bound new
      walk_along optional = record {
        place = step.place;
        past = omega (arith, later_past, ends.end_after next step.place.node.within);
        outer = round_next;
        skips = λ n. walked.skips n ∙ musts_no nodes n at next later (λ must _. false≢true (sym optional ∙ must));
        met = met_next;
        whole = whole_next;
        differ = differ_next;
        known = known_more walked.met (entry_for nodes next) old new noted walked.known;
      }

      -- it ends at a mandatory sibling
      pub walk_ends : f < length nodes → is_must_at nodes next ≡ true → shared_pairs nodes (followers_of nodes f) ≡ []
      walk_ends inside must =
          none_by met_next (outward nodes next (groups_round nodes next)) whole_next differ_next
          (none_after nodes table f inside next later_past step.place.node.within round_next at later must walked.skips)

    module _ (last : later_siblings nodes at ≡ []) where
      -- it goes up to the group
      pub walk_up : (g end : ℕ) → Some g ≡ parent_at nodes at → IsPlace nodes g end → IsNoted ranks (tag_at nodes (g + 1)) old new true → IsWalked nodes ranks f g end new
      walk_up g end is place noted = record {
        place = place;
        past = omega (arith, walked.past, ends.end_in_parent at g (sym is));
        outer = λ h round. walked.outer h (inner_round nodes table at g h (own_round nodes table at g (sym is)) round);
        skips = λ n. walked.skips n ∙ ap (filter (λ j. is_must_at nodes j && nat_lt j n)) (later_group nodes at g walked.place.node last is);
        met = walked.met ++ (g + 1) ∷ [];
        whole = whole_more walked.met (g + 1) (outward nodes at (groups_round nodes at)) (outward nodes g (groups_round nodes g)) walked.whole (outward_group nodes at g walked.place.node last is);
        differ = differ_push nodes walked.met (g + 1) walked.differ (new_each nodes ranks old (g + 1) walked.met (noted.fresh refl) walked.known);
        known = known_more walked.met (g + 1) old new noted walked.known;
      }

      -- it ends outside all groups
      pub walk_out : None ≡ parent_at nodes at → shared_pairs nodes (followers_of nodes f) ≡ []
      walk_out none =
          none_by walked.met (outward nodes at (groups_round nodes at)) walked.whole walked.differ
          (ap (filter (is_follower nodes f)) (outward_end nodes at walked.place.node last none))
