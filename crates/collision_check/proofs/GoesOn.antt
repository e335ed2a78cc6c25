-- Where no tag is shared after an entry, none is shared after the optional segment next to it: what follows the second, follows the first too.
use Rattle.std.proofs.Common.{◌≡◌, ℕ, zero, suc, ◌+◌, ◌-◌, ◌<◌, ◌≤◌, Bool, true, false, List, [], ◌∷◌, ◌++◌, Option, Some, None, length, get_or, refl, sym, ap, subst, ◌∙◌, inl, inr, ⊎_elim, arith}
use Rattle.std.specs.Prelude.{Contains, filter, nat_eq, nat_le, not, slice_index, take, ◌==◌, ◌&&◌, ◌||◌, if◌then◌else◌}
use Rattle.std.specs.List.{All, list_any}
use Rattle.std.specs.Str.{bytes_eq}
use Rattle.std.proofs.lemmas.Bool.{and_parts, cases_Bool, cases_eq, cases_order, cond_both, eq-eqb, ne_eqb, or_left, or_right, false≢true}
use Rattle.std.proofs.lemmas.List.Elements.{All-nil, All-cons, All-contains, All-contains_itself, All-filter, Contains-append_cases, Contains-append_right, Contains-get_or}
use Rattle.std.proofs.lemmas.Slice.Eq.{bytes_eq-Decides}
use Rattle.edi_tables.specs.declared.tag.Tag.{Tag}
use Rattle.edi_tables.specs.declared.table.Node.{Node}
use Rattle.edi_tables.specs.Filled.{is_filled}
use Rattle.edi_tables.specs.Places.{IsPlace, IsNextSibling, musts_left}
use Rattle.edi_tables.specs.Rows.{IsTable}
use Rattle.edi_tables.specs.Walk.{tag_at, parent_at, is_must_at, max_at, end_at, is_group_at, are_siblings, later_siblings, level_end, groups_round, is_trigger_at, outward, itself, candidates_of, later_nodes, is_repeat, reached_node, missing_between}
use Rattle.edi_tables.specs.Collisions.{are_same_tag, have_same_tag, may_come_again, is_follower, followers_of, pair_with, pair_at, shared_pairs}
use Rattle.edi_tables.proofs.Ahead.{Goes, goes, round_group}
use Rattle.edi_tables.proofs.Distinct.{apart_take, followers_apart}
use Rattle.edi_tables.proofs.MissingLaws.{musts_between}
use Rattle.edi_tables.proofs.PlaceLaws.{later_sibling, musts_no, musts_none, outward_sibling}
use Rattle.edi_tables.proofs.Places.{kept}
use Rattle.edi_tables.proofs.Reaching.{trigger_is}
use Rattle.edi_tables.proofs.Stepping.{is_round, same_groups, same_parent}
use Rattle.edi_tables.proofs.TableLaws.{HasTableLaws, table_laws}
use Rattle.edi_tables.proofs.Walking.{end_in_level, later_siblings_next, level_end_same}
use Rattle.collision_check.specs.Marks.{IsClear, goes_on, has_octets}
use Rattle.collision_check.proofs.AllDiffer.{filter_fails, none_made}
use Rattle.collision_check.proofs.Alone.{members_differ}

-- what a filter keeps was there, and passes
passes_each : (p : ℕ → Bool) (xs : List ℕ) → All (λ x. p x ≡ true) (filter p xs)
passes_each p [] = All-nil (λ x. p x ≡ true)
passes_each p (x ∷ xs) =
    cond_both (p x) (x ∷ filter p xs) (filter p xs) (All (λ y. p y ≡ true))
    (λ is. All-cons (λ y. p y ≡ true) x (filter p xs) is (passes_each p xs)) (λ _. passes_each p xs)

kept_parts : (p : ℕ → Bool) (xs : List ℕ) (c : ℕ) → Contains (filter p xs) c → Contains xs c × (p c ≡ true)
kept_parts p xs c found = (
  All-contains (Contains xs) (filter p xs) c (All-filter p (Contains xs) xs (All-contains_itself xs)) found,
  All-contains (λ x. p x ≡ true) (filter p xs) c (passes_each p xs) found,
)

only_one : (e c : ℕ) → Contains (e ∷ []) c → e ≡ c
only_one e c (zero, within, at) = at
only_one e c (suc k, within, at) = absurd (omega arith)

any_after : (g : ℕ) (groups : List ℕ) → list_any (nat_eq g) groups ≡ true → list_any (λ h. h + 1 == g + 1) groups ≡ true
any_after g [] some = absurd (false≢true some)
any_after g (h ∷ groups) some = elim (cases_eq g h) [
  | inl same ↦ or_left (h + 1 == g + 1) _ (eq-eqb (h + 1) (g + 1) (omega arith))
  | inr differ ↦ or_right (h + 1 == g + 1) _ (any_after g groups (sym (ap (λ b. b || list_any (nat_eq g) groups) (ne_eqb g h differ)) ∙ some))
]

both : (a b : Bool) → a ≡ true → b ≡ true → (a && b) ≡ true
both true b one two = two
both false b one two = one

-- two members with one tag are one, where no tag is shared
default_free : (xs : List ℕ) (i a b : ℕ) → i < length xs → get_or xs i a ≡ get_or xs i b
default_free [] i a b within = absurd (omega arith)
default_free (x ∷ xs) zero a b within = refl
default_free (x ∷ xs) (suc i) a b within = default_free xs i a b (omega arith)

module _ (nodes : List Node) (xs : List ℕ) (none : shared_pairs nodes xs ≡ []) where
  one_member : (octets : List ℕ) (c d : ℕ) → Contains xs c → Contains xs d → has_octets octets (tag_at nodes c) ≡ true → has_octets octets (tag_at nodes d) ≡ true → c ≡ d
  one_member octets c d one two tag_c tag_d =
      let at_c : slice_index xs one.0 ≡ c = default_free xs one.0 0 c one.1 ∙ one.2 in
      let at_d : slice_index xs two.0 ≡ d = default_free xs two.0 0 d two.1 ∙ two.2 in
      let has_c : has_octets octets (tag_at nodes (slice_index xs one.0)) ≡ true = ap (λ k. has_octets octets (tag_at nodes k)) at_c ∙ tag_c in
      let has_d : has_octets octets (tag_at nodes (slice_index xs two.0)) ≡ true = ap (λ k. has_octets octets (tag_at nodes k)) at_d ∙ tag_d in
      ⊎_elim
      (λ same. sym at_c ∙ ap (λ (k : ℕ). slice_index xs k) same ∙ at_d)
      (λ differ. ⊎_elim
      (λ less. absurd (members_differ nodes xs none octets one.0 two.0 less two.1 has_c has_d))
      (λ more. absurd (members_differ nodes xs none octets two.0 one.0 more one.1 has_d has_c)) differ)
      (cases_order one.0 two.0)

  differ_by : (c d : ℕ) → Contains xs c → Contains xs d → (d ≡ c → ⊥) → (one other : Option Tag) → tag_at nodes c ≡ one → tag_at nodes d ≡ other → are_same_tag one other ≡ false
  differ_by c d in_c in_d differ None other at_c at_d = refl
  differ_by c d in_c in_d differ (Some t) None at_c at_d = refl
  differ_by c d in_c in_d differ (Some t) (Some u) at_c at_d = elim (cases_Bool (bytes_eq t.octets u.octets)) [
    | inl same ↦ absurd (differ (sym (one_member t.octets c d in_c in_d (ap (has_octets t.octets) at_c ∙ (bytes_eq-Decides t.octets t.octets).1 refl) (ap (has_octets t.octets) at_d ∙ same))))
    | inr other ↦ other
  ]

  tags_of : (c d : ℕ) → Contains xs c → Contains xs d → (d ≡ c → ⊥) → have_same_tag nodes c d ≡ false
  tags_of c d in_c in_d differ = differ_by c d in_c in_d differ (tag_at nodes c) (tag_at nodes d) refl refl

-- an entry f, and the optional segment e next to it
module _ (nodes : List Node) (table : IsTable nodes) (f e : ℕ) (next : e ≡ f + 1) (within : e < length nodes) (entry : is_group_at nodes f ≡ false) (segment : is_group_at nodes e ≡ false)
    (optional : is_must_at nodes e ≡ false) (siblings : are_siblings nodes f e ≡ true) where
  laws : HasTableLaws nodes
  laws = table_laws nodes table

  inside : f < length nodes
  inside = omega (arith, next, within)

  same : parent_at nodes f ≡ parent_at nodes e
  same = same_parent (parent_at nodes f) (parent_at nodes e) siblings

  groups : groups_round nodes e ≡ groups_round nodes f
  groups = same_groups nodes table e f (parent_at nodes e) refl same

  end_f : end_at nodes f ≡ e
  end_f = laws.entry_end f inside entry ∙ sym next

  level : level_end nodes f ≡ level_end nodes e
  level = level_end_same nodes table f e same

  below : e < level_end nodes f
  below = omega (arith, level, end_in_level nodes table e, laws.end_after e within)

  place : IsPlace nodes f (level_end nodes f)
  place = record { node = record { table = table; within = inside }; level = refl }

  step : IsNextSibling nodes f (level_end nodes f) e
  step = record {
    place = record { node = record { table = table; within = within }; level = level };
    below = below;
    end = sym end_f;
    siblings = subst (λ k. later_siblings nodes f ≡ k ∷ later_siblings nodes k) end_f (later_siblings_next nodes table f inside (omega (arith, end_f, below)));
  }

  later : later_nodes nodes f ≡ e ∷ later_nodes nodes e
  later = later_sibling nodes f (level_end nodes f) e place step

  skipped : (bound : ℕ) → musts_left nodes bound f ≡ musts_left nodes bound e
  skipped bound = musts_no nodes bound f e later (λ must _. false≢true (sym optional ∙ must))

  -- the candidates after e are candidates after f
  outwards : outward nodes f (groups_round nodes f) ≡ e ∷ outward nodes e (groups_round nodes e)
  outwards =
      outward_sibling nodes f (level_end nodes f) e place step
      ∙ ap (λ b. (if b then e + 1 else e) ∷ outward nodes e (groups_round nodes e)) segment

  among : (c : ℕ) → Contains (itself nodes f ++ (e ∷ outward nodes e (groups_round nodes e))) c → Contains (candidates_of nodes f) c
  unfolding candidates_of
  among c found = subst (λ (xs : List ℕ). Contains (itself nodes f ++ xs) c) (sym outwards) found

  is_itself : (c : ℕ) → Contains (itself nodes e) c → e ≡ c
  is_itself c =
      cond_both (is_trigger_at nodes e) [] (e ∷ []) (λ xs. Contains xs c → e ≡ c)
      (λ _ found. absurd (omega (arith, found.1))) (λ _ found. only_one e c found)

  candidate : (c : ℕ) → Contains (candidates_of nodes e) c → Contains (candidates_of nodes f) c
  unfolding candidates_of
  candidate c found =
      let rest : List ℕ = outward nodes e (groups_round nodes e) in
      among c (Contains-append_right (itself nodes f) (e ∷ rest) c (⊎_elim
      (λ here. (0, omega arith, is_itself c here))
      (λ there. Contains-append_right (e ∷ []) rest c there)
      (Contains-append_cases (itself nodes e) rest c found)))

  -- and followers after e are followers after f
  repeats : (c : ℕ) → is_repeat nodes f c ≡ is_repeat nodes e c
  repeats c = ap (λ (gs : List ℕ). is_trigger_at nodes c && list_any (λ g. g + 1 == c) gs) (sym groups)

  follows_by : (c : ℕ) (missing : List ℕ) (again : Bool) → missing_between nodes f c ≡ missing → may_come_again nodes f c ≡ again → (not (is_filled missing) && again) ≡ true → is_follower nodes f c ≡ true
  follows_by c missing again one two pass = (λ i. not (is_filled (one i)) && two i) ∙ pass

  missing_at : (c n : ℕ) → reached_node nodes f c ≡ n → missing_between nodes f c ≡ musts_left nodes n e
  missing_at c n is = sym (musts_between nodes (reached_node nodes f c) f c refl) ∙ ap (λ (k : ℕ). musts_left nodes k f) is ∙ skipped n

  -- where a group is repeated, the same is passed from both
  reached_by : (x c : ℕ) → is_repeat nodes x c ≡ true → reached_node nodes x c ≡ end_at nodes (c - 1)
  reached_by x c is = ap (λ b. if b then end_at nodes (c - 1) else (if c == x then 0 else (if is_trigger_at nodes c then c - 1 else c))) is

  again_by : (x c : ℕ) → is_repeat nodes x c ≡ true → may_come_again nodes x c ≡ nat_le 2 (max_at nodes (c - 1))
  again_by x c is = ap (λ b. if b then nat_le 2 (max_at nodes (c - 1)) else (if c == x then nat_le 2 (max_at nodes x) else true)) is

  repeated : (c : ℕ) → is_repeat nodes e c ≡ true → is_follower nodes e c ≡ true → is_follower nodes f c ≡ true
  repeated c is pass =
      let is_f : is_repeat nodes f c ≡ true = repeats c ∙ is in
      let here : missing_between nodes f c ≡ missing_between nodes e c =
      missing_at c (reached_node nodes e c) (reached_by f c is_f ∙ sym (reached_by e c is)) ∙ musts_between nodes (reached_node nodes e c) e c refl in
      follows_by c (missing_between nodes e c) (may_come_again nodes e c) here (again_by f c is_f ∙ sym (again_by e c is)) pass

  -- where none is, the candidate comes after f
  reached_once : (x c : ℕ) → is_repeat nodes x c ≡ false → (c ≡ x → ⊥) → reached_node nodes x c ≡ (if is_trigger_at nodes c then c - 1 else c)
  reached_once x c once other =
      ap (λ b. if b then end_at nodes (c - 1) else (if c == x then 0 else (if is_trigger_at nodes c then c - 1 else c))) once
      ∙ ap (λ b. if b then 0 else (if is_trigger_at nodes c then c - 1 else c)) (ne_eqb c x other)

  again_once : (x c : ℕ) → is_repeat nodes x c ≡ false → (c ≡ x → ⊥) → may_come_again nodes x c ≡ true
  again_once x c once other =
      ap (λ b. if b then nat_le 2 (max_at nodes (c - 1)) else (if c == x then nat_le 2 (max_at nodes x) else true)) once
      ∙ ap (λ b. if b then nat_le 2 (max_at nodes x) else true) (ne_eqb c x other)

  at_most : (c : ℕ) → (if is_trigger_at nodes c then c - 1 else c) ≤ c
  at_most c = cond_both (is_trigger_at nodes c) (c - 1) c (λ x. x ≤ c) (λ _. omega arith) (λ _. omega arith)

  after_itself : (c : ℕ) → is_repeat nodes e c ≡ false → c ≡ e → is_follower nodes f c ≡ true
  after_itself c once is =
      let once_f : is_repeat nodes f c ≡ false = repeats c ∙ once in
      let other : c ≡ f → ⊥ = λ same. omega (arith, next, is, same) in
      let n : ℕ = reached_node nodes f c in
      let low : n ≤ e = omega (arith, reached_once f c once_f other, at_most c, is) in
      follows_by c [] true (missing_at c n refl ∙ musts_none nodes n e low) (again_once f c once_f other) refl

  after_both : (c : ℕ) → is_repeat nodes e c ≡ false → e < c → is_follower nodes e c ≡ true → is_follower nodes f c ≡ true
  after_both c once past pass =
      let once_f : is_repeat nodes f c ≡ false = repeats c ∙ once in
      let other_f : c ≡ f → ⊥ = λ same. omega (arith, next, past, same) in
      let other_e : c ≡ e → ⊥ = λ same. omega (arith, past, same) in
      let here : missing_between nodes f c ≡ missing_between nodes e c =
      missing_at c (reached_node nodes e c) (reached_once f c once_f other_f ∙ sym (reached_once e c once other_e)) ∙ musts_between nodes (reached_node nodes e c) e c refl in
      follows_by c (missing_between nodes e c) true here (again_once f c once_f other_f)
      (both (not (is_filled (missing_between nodes e c))) true (and_parts (not (is_filled (missing_between nodes e c))) (may_come_again nodes e c) pass).0 refl)

  round_repeats : (c k : ℕ) → c ≡ k + 1 → is_round nodes e k ≡ true → is_repeat nodes e c ≡ true
  round_repeats c k is round =
      subst (λ (x : ℕ). is_repeat nodes e x ≡ true) (sym is)
      (both (is_trigger_at nodes (k + 1)) (list_any (λ g. g + 1 == k + 1) (groups_round nodes e)) (trigger_is nodes table k (round_group nodes table e k round)) (any_after k (groups_round nodes e) round))

  follows : (c : ℕ) → Goes nodes table e c → (repeat : Bool) → is_repeat nodes e c ≡ repeat → is_follower nodes e c ≡ true → is_follower nodes f c ≡ true
  follows c where_to true is pass = repeated c is pass
  follows c (inl itself) false is pass = after_itself c is itself.0
  follows c (inr (inl later)) false is pass = after_both c is later.1 pass
  follows c (inr (inr (k, at, round))) false is pass = absurd (false≢true (sym is ∙ round_repeats c k at round))

  follower : (c : ℕ) → Contains (followers_of nodes e) c → Contains (followers_of nodes f) c
  unfolding followers_of
  follower c found =
      let parts = kept_parts (is_follower nodes e) (candidates_of nodes e) c found in
      let there = candidate c parts.0 in
      kept (is_follower nodes f) (candidates_of nodes f) c there.0 there.1 there.2
      (follows c (goes nodes table e within c parts.0) (is_repeat nodes e c) refl parts.1)

  -- so no tag is shared after e where none is after f
  no_pair : shared_pairs nodes (followers_of nodes f) ≡ [] → (j : ℕ) → j < length (followers_of nodes e) → pair_at nodes (followers_of nodes e) j ≡ []
  no_pair none j here =
      let followers : List ℕ = followers_of nodes e in
      let this : Contains (followers_of nodes f) (slice_index followers j) = follower (slice_index followers j) (Contains-get_or followers j 0 here) in
      let others = apart_take followers j here (followers_apart nodes table e) in
      ap (λ (before : List ℕ). pair_with before (slice_index followers j))
      (filter_fails (have_same_tag nodes (slice_index followers j)) (take j followers)
      (λ k d in_it. tags_of nodes (followers_of nodes f) none (slice_index followers j) (get_or (take j followers) k d) this
      (follower (get_or (take j followers) k d) (taken followers j k d in_it)) (others k d in_it)))
    where
      taken : (xs : List ℕ) (j k d : ℕ) → k < length (take j xs) → Contains xs (get_or (take j xs) k d)
      taken [] zero k d in_it = absurd (omega arith)
      taken [] (suc j) k d in_it = absurd (omega arith)
      taken (x ∷ xs) zero k d in_it = absurd (omega arith)
      taken (x ∷ xs) (suc j) zero d in_it = (0, omega arith, refl)
      taken (x ∷ xs) (suc j) (suc k) d in_it = Contains-append_right (x ∷ []) xs (get_or (take j xs) k d) (taken xs j k d (omega arith))

  pub none_next : shared_pairs nodes (followers_of nodes f) ≡ [] → shared_pairs nodes (followers_of nodes e) ≡ []
  unfolding shared_pairs
  none_next none = none_made (pair_at nodes (followers_of nodes e)) (length (followers_of nodes e)) 0 (λ j from here. no_pair none j (omega arith))

is_not : (b : Bool) → not b ≡ true → b ≡ false
is_not true is = sym is
is_not false _ = refl

pub clear_on : (nodes : List Node) → IsTable nodes → (e : ℕ) → IsClear nodes e → e < length nodes → is_group_at nodes e ≡ false → goes_on nodes e ≡ true → shared_pairs nodes (followers_of nodes e) ≡ []
clear_on nodes table e clear within segment goes =
    let parts = and_parts (are_siblings nodes (e - 1) e) (not (is_must_at nodes e)) goes in
    none_next nodes table (e - 1) e (omega (arith, clear.some)) within clear.entry segment (is_not (is_must_at nodes e) parts.1) parts.0 clear.none

pub clear_here : (nodes : List Node) (e : ℕ) → is_group_at nodes e ≡ false → shared_pairs nodes (followers_of nodes e) ≡ [] → IsClear nodes (e + 1)
clear_here nodes e entry none =
    let back : e ≡ (e + 1) - 1 = omega arith in record {
      some = omega arith;
      entry = subst (λ (k : ℕ). is_group_at nodes k ≡ false) back entry;
      none = subst (λ (k : ℕ). shared_pairs nodes (followers_of nodes k) ≡ []) back none;
    }
