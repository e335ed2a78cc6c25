-- The pairs of a walk after one step are a function of its pairs and of the step.
use Rattle.std.proofs.Common.{◌≡◌, ℕ, ◌+◌, ◌-◌, Bool, true, false, List, [], ◌∷◌, ◌++◌, Option, Some, map, refl, sym, ap, ◌∙◌, inl, inr, arith}
use Rattle.std.specs.Prelude.{reverse, nat_eq, nat_le, not, ◌==◌, ◌&&◌, ◌||◌, Contains, if◌then◌else◌}
use Rattle.std.specs.List.{list_any}
use Rattle.std.proofs.lemmas.Bool.{cases_Bool, cases_eq, eq-eqb, ne_eqb, eqb-true, or_left, or_right, false≢true}
use Rattle.std.proofs.lemmas.List.{reverse-append}
use Rattle.std.proofs.lemmas.List.Folds.{list_any-append}
use Rattle.edi_tables.specs.declared.table.Node.{Node}
use Rattle.edi_tables.specs.Rows.{IsTable}
use Rattle.edi_tables.specs.Walk.{is_group_at, is_trigger_at, is_repeat, max_at, groups_round, missing_between, candidates_of}
use Rattle.edi_tables.specs.Placement.{entry_count, group_count, last_placed, is_over, rank_of}
use Rattle.edi_tables.specs.Filled.{is_filled}
use Rattle.edi_tables.specs.Pairs.{pairs_with, pairs_of, count_in, entry_in, group_next, entry_next, pairs_next, over_in, rank_in}
use Rattle.edi_tables.proofs.Stepping.{is_round}
use Rattle.edi_tables.proofs.Reaching.{round_ends}
use Rattle.edi_tables.proofs.Placements.{repeat_round}
use Rattle.edi_tables.proofs.Pushing.{last_push}
use Rattle.edi_tables.proofs.Ahead.{IsSound, round_group}
use Rattle.edi_tables.proofs.Counts.{group_grows, entry_grows, trigger_once, group_none, entry_none}

-- the entry of pairs is the last
pub entry_last : (xs : List (ℕ × ℕ)) (p : ℕ × ℕ) → entry_in (xs ++ p ∷ []) ≡ p.0
entry_last [] p = refl
entry_last (x ∷ []) p = refl
entry_last (x ∷ y ∷ more) p = entry_last (y ∷ more) p

or_none : (b : Bool) → (b || false) ≡ b
or_none true = refl
or_none false = refl

or_swap : (a b : Bool) → (a || b) ≡ (b || a)
or_swap true b = sym (any_true b)
  where
    any_true : (b : Bool) → (b || true) ≡ true
    any_true true = refl
    any_true false = refl
or_swap false b = sym (or_none b)

any_reverse : (p : ℕ → Bool) (xs : List ℕ) → list_any p (reverse xs) ≡ list_any p xs
any_reverse p [] = refl
any_reverse p (x ∷ xs) =
    ap (list_any p) (reverse-append (x ∷ []) xs) ∙ list_any-append p (reverse xs) (x ∷ []) ∙ ap (λ b. list_any p (reverse xs) || b) (or_none (p x))
    ∙ ap (λ b. b || p x) (any_reverse p xs) ∙ or_swap (list_any p xs) (p x)

-- a group that is there has its count, and another node that of the rest
count_there : (of : ℕ → ℕ) (gs : List ℕ) (rest : List (ℕ × ℕ)) (node : ℕ) → list_any (nat_eq node) gs ≡ true → count_in (map (λ g. (g, of g)) gs ++ rest) node ≡ of node
count_there of [] rest node some = absurd (false≢true some)
count_there of (g ∷ gs) rest node some = elim (cases_eq g node) [
  | inl same ↦ ap (λ b. if b then of g else count_in (map (λ g. (g, of g)) gs ++ rest) node) (eq-eqb g node same) ∙ ap of same
  | inr differ ↦ ap (λ b. if b then of g else count_in (map (λ g. (g, of g)) gs ++ rest) node) (ne_eqb g node differ)
      ∙ count_there of gs rest node (ap (λ b. b || list_any (nat_eq node) gs) (sym (ne_eqb node g (λ same. differ (sym same)))) ∙ some)
]

count_not : (of : ℕ → ℕ) (gs : List ℕ) (rest : List (ℕ × ℕ)) (node : ℕ) → list_any (nat_eq node) gs ≡ false → count_in (map (λ g. (g, of g)) gs ++ rest) node ≡ count_in rest node
count_not of [] rest node none = refl
count_not of (g ∷ gs) rest node none = elim (cases_eq g node) [
  | inl same ↦ absurd (false≢true (sym none ∙ or_left (nat_eq node g) (list_any (nat_eq node) gs) (eq-eqb node g (sym same))))
  | inr differ ↦ ap (λ b. if b then of g else count_in (map (λ g. (g, of g)) gs ++ rest) node) (ne_eqb g node differ)
      ∙ count_not of gs rest node (ap (λ b. b || list_any (nat_eq node) gs) (sym (ne_eqb node g (λ same. differ (sym same)))) ∙ none)
]

-- groups with their counts
abbrev counted : (ℕ → ℕ) → List ℕ → List (ℕ × ℕ)
counted of gs = map (λ g. (g, of g)) gs

-- maps agree where they agree on the members
same_counts : (one other : ℕ → ℕ) (gs : List ℕ) → ((g : ℕ) → list_any (nat_eq g) gs ≡ true → one g ≡ other g) → counted one gs ≡ counted other gs
same_counts one other [] same = refl
same_counts one other (g ∷ gs) same =
    ap (λ (n : ℕ). let pair : ℕ × ℕ = (g, n) in pair ∷ counted one gs) (same g (or_left (nat_eq g g) (list_any (nat_eq g) gs) (eq-eqb g g refl)))
    ∙ ap (λ (more : List (ℕ × ℕ)). let pair : ℕ × ℕ = (g, other g) in pair ∷ more) (same_counts one other gs (λ h there. same h (or_right (nat_eq h g) (list_any (nat_eq h) gs) there)))

module _ (nodes : List Node) (table : IsTable nodes) where
  module _ (placed : List (Option ℕ)) (f : ℕ) (last : last_placed placed ≡ f) where
    pub pairs_here : pairs_of nodes placed ≡ pairs_with nodes f (group_count nodes placed) (entry_count nodes placed f)
    unfolding pairs_of
    pairs_here = ap (λ (n : ℕ). pairs_with nodes n (group_count nodes placed) (entry_count nodes placed n)) last

    -- the entry that was placed last is known by the pairs
    pub entry_known : entry_in (pairs_of nodes placed) ≡ f
    entry_known = ap entry_in pairs_here ∙ entry_last (map (λ g. (g, group_count nodes placed g)) (reverse (groups_round nodes f))) (f, entry_count nodes placed f)

    -- so is the count of each group round it, and its own
    pub group_known : (g : ℕ) → is_round nodes f g ≡ true → count_in (pairs_of nodes placed) g ≡ group_count nodes placed g
    group_known g round =
        ap (λ (pairs : List (ℕ × ℕ)). count_in pairs g) pairs_here
        ∙ count_there (group_count nodes placed) (reverse (groups_round nodes f)) ((f, entry_count nodes placed f) ∷ []) g (any_reverse (nat_eq g) (groups_round nodes f) ∙ round)

    -- and no other node has a count
    pub other_known : (node : ℕ) → is_round nodes f node ≡ false → count_in (pairs_of nodes placed) node ≡ (if f == node then entry_count nodes placed f else 0)
    other_known node out =
        ap (λ (pairs : List (ℕ × ℕ)). count_in pairs node) pairs_here
        ∙ count_not (group_count nodes placed) (reverse (groups_round nodes f)) ((f, entry_count nodes placed f) ∷ []) node (any_reverse (nat_eq node) (groups_round nodes f) ∙ out)

    not_itself : is_round nodes f f ≡ false
    not_itself = elim (cases_Bool (is_round nodes f f)) [
      | inl round ↦ absurd (omega (arith, (round_ends nodes table f f round).0))
      | inr out ↦ out
    ]

    pub own_known : count_in (pairs_of nodes placed) f ≡ entry_count nodes placed f
    own_known = other_known f not_itself ∙ ap (λ b. if b then entry_count nodes placed f else 0) (eq-eqb f f refl)

    -- whether a step is one too many, and its rank, are known by the pairs
    over_by : (c : ℕ) (repeat : Bool) → is_repeat nodes f c ≡ repeat → (same : Bool) → (c == f) ≡ same
        → (if repeat then nat_le (max_at nodes (c - 1)) (group_count nodes placed (c - 1)) else (same && nat_le (max_at nodes c) (entry_count nodes placed c)))
        ≡ (if repeat then nat_le (max_at nodes (c - 1)) (count_in (pairs_of nodes placed) (c - 1)) else (same && nat_le (max_at nodes c) (count_in (pairs_of nodes placed) c)))
    over_by c true repeat same is = ap (nat_le (max_at nodes (c - 1))) (sym (group_known (c - 1) (repeat_round nodes table f c repeat)))
    over_by c false repeat true is =
        let here : c ≡ f = eqb-true c f is in
        ap (nat_le (max_at nodes c)) (ap (entry_count nodes placed) here ∙ sym own_known ∙ ap (count_in (pairs_of nodes placed)) (sym here))
    over_by c false repeat false is = refl

    pub over_is : (c : ℕ) → is_over nodes placed c ≡ over_in nodes (pairs_of nodes placed) c
    unfolding is_over
    over_is c =
        ap (λ (n : ℕ). if is_repeat nodes n c then nat_le (max_at nodes (c - 1)) (group_count nodes placed (c - 1)) else (c == n && nat_le (max_at nodes c) (entry_count nodes placed c))) last
        ∙ over_by c (is_repeat nodes f c) refl (c == f) refl
        ∙ ap (λ (n : ℕ). if is_repeat nodes n c then nat_le (max_at nodes (c - 1)) (count_in (pairs_of nodes placed) (c - 1)) else (c == n && nat_le (max_at nodes c) (count_in (pairs_of nodes placed) c))) (sym entry_known)

    pub rank_is : (c : ℕ) → rank_of nodes placed c ≡ rank_in nodes (pairs_of nodes placed) c
    unfolding rank_of
    rank_is c =
        ap (λ b. (if b then 1 else 0) + (if is_filled (missing_between nodes (last_placed placed) c) then 2 else 0)) (over_is c)
        ∙ ap (λ (n : ℕ). (if over_in nodes (pairs_of nodes placed) c then 1 else 0) + (if is_filled (missing_between nodes n c) then 2 else 0)) (last ∙ sym entry_known)

  module _ (placed : List (Option ℕ)) (f : ℕ) (sound : IsSound nodes placed f) (c : ℕ) (found : Contains (candidates_of nodes f) c) where
    abbrev pairs : List (ℕ × ℕ)
    pairs = pairs_of nodes placed

    group_before : (g : ℕ) → is_round nodes c g ≡ true → group_count nodes placed g ≡ count_in pairs g
    group_before g round = elim (cases_Bool (is_round nodes f g)) [
      | inl kept ↦ sym (group_known placed f sound.last g kept)
      | inr out ↦ group_none nodes table placed f sound c found g round out
          ∙ sym (other_known placed f sound.last g out ∙ ap (λ b. if b then entry_count nodes placed f else 0) (ne_eqb f g (λ same. false≢true (sym sound.entry ∙ ap (is_group_at nodes) same ∙ round_group nodes table c g round))))
    ]

    group_after : (g : ℕ) → is_round nodes c g ≡ true → group_count nodes (placed ++ Some c ∷ []) g ≡ group_next pairs c g
    group_after g round = group_grows nodes table placed c g round ∙ ap (λ (n : ℕ). n + (if c == g + 1 then 1 else 0)) (group_before g round)

    entry_by : (trigger same : Bool) → is_trigger_at nodes c ≡ trigger → (c == f) ≡ same → entry_count nodes (placed ++ Some c ∷ []) c ≡ (if same && not trigger then count_in pairs c + 1 else 1)
    entry_by true true trigger is = trigger_once nodes table placed c trigger
    entry_by true false trigger is = trigger_once nodes table placed c trigger
    entry_by false true trigger is =
        let here : c ≡ f = eqb-true c f is in
        entry_grows nodes table placed c trigger ∙ ap (λ (n : ℕ). n + 1) (ap (entry_count nodes placed) here ∙ sym (own_known placed f sound.last) ∙ ap (count_in pairs) (sym here))
    entry_by false false trigger is =
        entry_grows nodes table placed c trigger
        ∙ ap (λ (n : ℕ). n + 1) (entry_none nodes table placed f sound c found trigger (λ same. false≢true (sym is ∙ eq-eqb c f same)))

    entry_after : entry_count nodes (placed ++ Some c ∷ []) c ≡ entry_next nodes pairs c
    entry_after =
        entry_by (is_trigger_at nodes c) (c == f) refl refl
        ∙ ap (λ (n : ℕ). if c == n && not (is_trigger_at nodes c) then count_in pairs c + 1 else 1) (sym (entry_known placed f sound.last))

    -- the pairs after a step are those that the pairs before it give
    pub pairs_step : pairs_of nodes (placed ++ Some c ∷ []) ≡ pairs_next nodes pairs c
    pairs_step =
        pairs_here (placed ++ Some c ∷ []) c (last_push placed c)
        ∙ ap (λ (groups : List (ℕ × ℕ)). let pair : ℕ × ℕ = (c, entry_count nodes (placed ++ Some c ∷ []) c) in groups ++ pair ∷ [])
        (same_counts (group_count nodes (placed ++ Some c ∷ [])) (group_next pairs c) (reverse (groups_round nodes c)) (λ g there. group_after g (sym (any_reverse (nat_eq g) (groups_round nodes c)) ∙ there)))
        ∙ ap (λ (n : ℕ). let pair : ℕ × ℕ = (c, n) in counted (group_next pairs c) (reverse (groups_round nodes c)) ++ pair ∷ []) entry_after
