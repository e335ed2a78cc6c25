-- From candidate to candidate, in processing order, no less is reached: so once one misses a node, each later one does.
use Rattle.std.proofs.Common.{◌≡◌, ℕ, zero, suc, ◌+◌, ◌-◌, ◌<◌, ◌≤◌, Bool, true, false, List, [], ◌∷◌, ◌++◌, Option, Some, None, map, length, refl, sym, ap, subst, ◌∙◌, ◌⊎◌, inl, inr, arith}
use Rattle.std.specs.Prelude.{AllPairs, nat_eq, ◌==◌, ◌&&◌, ◌||◌, filter, if◌then◌else◌}
use Rattle.std.specs.List.{All, list_any, range_with_len}
use Rattle.std.proofs.lemmas.Bool.{cond_both, cases_Bool, cases_eq, eq-eqb, ne_eqb, lt-ltb, ltb-true, or_left, or_right, false≢true}
use Rattle.std.proofs.lemmas.List.Elements.{All-cons, All-head, All-tail, All-append, All-map, All-weaker}
use Rattle.edi_tables.specs.declared.table.Node.{Node}
use Rattle.edi_tables.specs.Rows.{IsTable}
use Rattle.edi_tables.specs.Walk.{parent_at, end_at, is_group_at, is_trigger_of, is_trigger_at, is_repeat, reached_node, entry_for, are_siblings, later_siblings, groups_round, outward, candidates_of}
use Rattle.edi_tables.specs.Places.{lies_before}
use Rattle.edi_tables.proofs.TableLaws.{HasTableLaws, table_laws}
use Rattle.edi_tables.proofs.Places.{Passes, passing_each}
use Rattle.edi_tables.proofs.Stepping.{is_round, same_parent, round_some, parent_of_round}
use Rattle.edi_tables.proofs.Reaching.{trigger_is, round_ends, inner_round}
use Rattle.edi_tables.proofs.Placements.{repeat_round, round_below}
use Rattle.edi_tables.proofs.Distinct.{not_inside}

-- each member has no greater rank than those after it
abbrev pub IsRising : (ℕ → ℕ) → List ℕ → Type 0
IsRising rank [] = Unit {0}
IsRising rank (x ∷ xs) = All (λ y. rank x ≤ rank y) xs × IsRising rank xs

-- that is, all pairs rise
pub pairs_rising : (rank : ℕ → ℕ) (xs : List ℕ) → IsRising rank xs → AllPairs (λ x y. rank x ≤ rank y) xs
pairs_rising rank [] rising i j d less within = absurd (omega arith)
pairs_rising rank (x ∷ xs) rising zero zero d less within = absurd (omega arith)
pairs_rising rank (x ∷ xs) rising zero (suc j) d less within = rising.0 j d (omega arith)
pairs_rising rank (x ∷ xs) rising (suc i) zero d less within = absurd (omega arith)
pairs_rising rank (x ∷ xs) rising (suc i) (suc j) d less within = pairs_rising rank xs rising.1 i j d (omega arith) (omega arith)

pub rising_pairs : (rank : ℕ → ℕ) (xs : List ℕ) → AllPairs (λ x y. rank x ≤ rank y) xs → IsRising rank xs
rising_pairs rank [] pairs = tt
rising_pairs rank (x ∷ xs) pairs = (
  λ k d within. pairs 0 (suc k) d (omega arith) (omega arith),
  rising_pairs rank xs (λ i j d less within. pairs (suc i) (suc j) d (omega arith) (omega arith)),
)

rising_append : (rank : ℕ → ℕ) (bound : ℕ) (xs ys : List ℕ) → IsRising rank xs → All (λ x. rank x ≤ bound) xs → IsRising rank ys → All (λ y. bound ≤ rank y) ys → IsRising rank (xs ++ ys)
rising_append rank bound [] ys one below two above = two
rising_append rank bound (x ∷ xs) ys one below two above = (
  All-append (λ y. rank x ≤ rank y) xs ys one.0 (All-weaker (λ y. bound ≤ rank y) (λ y. rank x ≤ rank y) (λ y high. omega (arith, All-head (λ x. rank x ≤ bound) x xs below)) ys above),
  rising_append rank bound xs ys one.1 (All-tail (λ x. rank x ≤ bound) x xs below) two above,
)

-- what is made of ascending places that pass, where the rank of each is its place
rising_made : (rank made : ℕ → ℕ) (p : ℕ → Bool) → (low : ℕ) → ((j : ℕ) → low ≤ j → p j ≡ true → rank (made j) ≡ j) → (n a : ℕ) → low ≤ a → IsRising rank (map made (filter p (range_with_len a n)))
rising_made rank made p low is zero a from = tt
rising_made rank made p low is (suc n) a from =
    let rest : List ℕ = filter p (range_with_len (a + 1) n) in
    cond_both (p a) (a ∷ rest) rest (λ xs. IsRising rank (map made xs))
    (λ passes. (
      All-map (λ y. rank (made a) ≤ rank y) made rest
          (All-weaker (Passes p (a + 1) (a + 1 + n)) (λ k. rank (made a) ≤ rank (made k))
          (λ k here. omega (arith, here.0, is a from passes, is k (omega (arith, here.0)) here.2)) rest (passing_each p n (a + 1) (a + 1 + n) refl)),
      rising_made rank made p low is n (a + 1) (omega arith),
    ))
    (λ _. rising_made rank made p low is n (a + 1) (omega arith))

any_after : (g : ℕ) (groups : List ℕ) → list_any (nat_eq g) groups ≡ true → list_any (λ h. h + 1 == g + 1) groups ≡ true
any_after g [] some = absurd (false≢true some)
any_after g (h ∷ groups) some = elim (cases_eq g h) [
  | inl same ↦ or_left (h + 1 == g + 1) _ (eq-eqb (h + 1) (g + 1) (omega arith))
  | inr differ ↦ or_right (h + 1 == g + 1) _ (any_after g groups (sym (ap (λ b. b || list_any (nat_eq g) groups) (ne_eqb g h differ)) ∙ some))
]

module _ (nodes : List Node) (table : IsTable nodes) (f : ℕ) (within : f < length nodes) where
  laws : HasTableLaws nodes
  laws = table_laws nodes table

  abbrev reached : ℕ → ℕ
  reached c = reached_node nodes f c

  -- what an entry after f reaches is its node
  plain_reached : (c n : ℕ) → is_repeat nodes f c ≡ false → f < c → (if is_trigger_at nodes c then c - 1 else c) ≡ n → reached c ≡ n
  plain_reached c n once past is =
      ap (λ b. if b then end_at nodes (c - 1) else (if c == f then 0 else (if is_trigger_at nodes c then c - 1 else c))) once
      ∙ ap (λ b. if b then 0 else (if is_trigger_at nodes c then c - 1 else c)) (ne_eqb c f (λ same. omega arith)) ∙ is

  -- an entry after f repeats no group
  pub not_repeat : (c : ℕ) → f < c → is_repeat nodes f c ≡ false
  not_repeat c past = elim (cases_Bool (is_repeat nodes f c)) [
    | inl repeat ↦ absurd (above (round_below nodes table f (c - 1) (repeat_round nodes table f c repeat)))
    | inr once ↦ once
  ]
    where
      above : c - 1 < f → ⊥
      above before = omega arith

  group_reached : (j : ℕ) → f < j → is_group_at nodes j ≡ true → reached (j + 1) ≡ j
  group_reached j past group =
      plain_reached (j + 1) j (not_repeat (j + 1) (omega arith)) (omega arith)
      (ap (λ b. if b then (j + 1) - 1 else j + 1) (trigger_is nodes table j group) ∙ (let back : (j + 1) - 1 ≡ j = omega arith in back))

  -- a later sibling is no trigger
  plain_trigger : (i j : ℕ) (found : Option ℕ) → i < j → parent_at nodes i ≡ found → parent_at nodes j ≡ found → is_trigger_of found j ≡ false
  plain_trigger i j None past one two = refl
  plain_trigger i j (Some g) past one two = ne_eqb (g + 1) j (λ same. omega (arith, laws.parent_before i g one))

  sibling_reached : (i j : ℕ) → i < j → f < j → are_siblings nodes i j ≡ true → reached (entry_for nodes j) ≡ j
  sibling_reached i j past later siblings =
      cond_both (is_group_at nodes j) (j + 1) j (λ c. reached c ≡ j) (λ group. group_reached j later group)
      (λ entry. plain_reached j j (not_repeat j later) later
      (ap (λ b. if b then j - 1 else j)
      (ap (λ found. is_trigger_of found j) (sym (same_parent (parent_at nodes i) (parent_at nodes j) siblings))
      ∙ plain_trigger i j (parent_at nodes i) past refl (sym (same_parent (parent_at nodes i) (parent_at nodes j) siblings)))))

  -- the trigger of a group round f reaches its end
  repeat_reached : (g : ℕ) → is_group_at nodes g ≡ true → is_round nodes f g ≡ true → reached (g + 1) ≡ end_at nodes g
  repeat_reached g group round =
      let repeat : is_repeat nodes f (g + 1) ≡ true = both (is_trigger_at nodes (g + 1)) _ (trigger_is nodes table g group) (any_after g (groups_round nodes f) round) in
      ap (λ b. if b then end_at nodes ((g + 1) - 1) else (if (g + 1) == f then 0 else (if is_trigger_at nodes (g + 1) then (g + 1) - 1 else g + 1))) repeat
      ∙ (let back : (g + 1) - 1 ≡ g = omega arith in ap (end_at nodes) back)
    where
      both : (a b : Bool) → a ≡ true → b ≡ true → (a && b) ≡ true
      both true b one two = two
      both false b one two = one

  -- a level round f: f itself or a group round it
  abbrev IsLevel : ℕ → Type 0
  IsLevel i = (i ≡ f) ⊎ (is_round nodes f i ≡ true)

  past_level : (i : ℕ) → IsLevel i → f < end_at nodes i
  past_level i (inl same) = omega (arith, laws.end_after f within, ap (end_at nodes) same)
  past_level i (inr round) = omega (arith, (round_ends nodes table f i round).1, laws.end_after f within)

  abbrev level : ℕ → List ℕ
  level i = map (entry_for nodes) (later_siblings nodes i)

  later_end : (i j : ℕ) → i < j → are_siblings nodes i j ≡ true → end_at nodes i ≤ j
  later_end i j past siblings = not_inside nodes table i j past (same_parent (parent_at nodes i) (parent_at nodes j) siblings)

  level_rising : (i : ℕ) → IsLevel i → IsRising reached (level i)
  unfolding later_siblings
  level_rising i at =
      rising_made reached (entry_for nodes) (are_siblings nodes i) (i + 1)
      (λ j from siblings. sibling_reached i j (omega arith) (omega (arith, past_level i at, later_end i j (omega arith) siblings)) siblings)
      (length nodes - (i + 1)) (i + 1) (omega arith)

  -- what the later siblings of a level reach
  level_each : (P : ℕ → Type 0) → (i : ℕ) → IsLevel i → ((j : ℕ) → i < j → j < length nodes → are_siblings nodes i j ≡ true → P j) → All (λ c. P (reached c)) (level i)
  unfolding later_siblings
  level_each P i at each =
      let count : ℕ = length nodes - (i + 1) in
      All-map (λ c. P (reached c)) (entry_for nodes) (later_siblings nodes i)
      (All-weaker (Passes (are_siblings nodes i) (i + 1) (i + 1 + count)) (λ j. P (reached (entry_for nodes j)))
      (λ j here. subst P (sym (sibling_reached i j (omega (arith, here.0)) (omega (arith, here.0, past_level i at, later_end i j (omega (arith, here.0)) here.2)) here.2))
      (each j (omega (arith, here.0)) (omega (arith, here.1)) here.2))
      (later_siblings nodes i) (passing_each (are_siblings nodes i) count (i + 1) (i + 1 + count) refl))

  level_low : (i : ℕ) → IsLevel i → All (λ c. end_at nodes i ≤ reached c) (level i)
  level_low i at = level_each (λ n. end_at nodes i ≤ n) i at (λ j past below siblings. later_end i j past siblings)

  level_high : (i g : ℕ) → IsLevel i → parent_at nodes i ≡ Some g → All (λ c. reached c ≤ end_at nodes g) (level i)
  level_high i g at up =
      level_each (λ n. n ≤ end_at nodes g) i at
      (λ j past below siblings. omega (arith, laws.before_parent_end j g (sym (same_parent (parent_at nodes i) (parent_at nodes j) siblings) ∙ up)))

  next_level : (i g : ℕ) → IsLevel i → parent_at nodes i ≡ Some g → is_round nodes f g ≡ true
  next_level i g (inl same) up = round_some nodes table f g g (ap (parent_at nodes) (sym same) ∙ up) ∙ or_left (nat_eq g g) _ (eq-eqb g g refl)
  next_level i g (inr round) up = inner_round nodes table f i g round (round_some nodes table i g g up ∙ or_left (nat_eq g g) _ (eq-eqb g g refl))

  outward_rising : (groups : List ℕ) (i : ℕ) → groups ≡ groups_round nodes i → IsLevel i → IsRising reached (outward nodes i groups) × All (λ c. end_at nodes i ≤ reached c) (outward nodes i groups)
  outward_rising [] i is at = (level_rising i at, level_low i at)
  outward_rising (g ∷ groups) i is at =
      let up = parent_of_round nodes table i g groups (parent_at nodes i) refl is in
      let round = next_level i g at up.0 in
      let far : reached (g + 1) ≡ end_at nodes g = repeat_reached g (laws.parent_is_group i g up.0) round in
      let more = outward_rising groups g up.1 (inr round) in
      let back : IsRising reached ((g + 1) ∷ outward nodes g groups) = (All-weaker (λ c. end_at nodes g ≤ reached c) (λ c. reached (g + 1) ≤ reached c) (λ c high. omega (arith, far)) (outward nodes g groups) more.1, more.0) in
      let high : All (λ c. end_at nodes g ≤ reached c) ((g + 1) ∷ outward nodes g groups) = All-cons (λ c. end_at nodes g ≤ reached c) (g + 1) (outward nodes g groups) (omega (arith, far)) more.1 in (
        rising_append reached (end_at nodes g) (level i) ((g + 1) ∷ outward nodes g groups) (level_rising i at) (level_high i g at up.0) back high,
        All-append (λ c. end_at nodes i ≤ reached c) (level i) ((g + 1) ∷ outward nodes g groups) (level_low i at)
            (All-weaker (λ c. end_at nodes g ≤ reached c) (λ c. end_at nodes i ≤ reached c) (λ c far. omega (arith, laws.end_in_parent i g up.0)) ((g + 1) ∷ outward nodes g groups) high),
      )

  itself_reached : is_trigger_at nodes f ≡ false → reached f ≡ 0
  itself_reached plain =
      ap (λ b. if b then end_at nodes (f - 1) else (if f == f then 0 else (if is_trigger_at nodes f then f - 1 else f))) (ap (λ b. b && list_any (λ g. g + 1 == f) (groups_round nodes f)) plain)
      ∙ ap (λ b. if b then 0 else (if is_trigger_at nodes f then f - 1 else f)) (eq-eqb f f refl)

  pub candidates_rising : IsRising reached (candidates_of nodes f)
  unfolding candidates_of
  candidates_rising =
      let more = outward_rising (groups_round nodes f) f refl (inl refl) in
      cond_both (is_trigger_at nodes f) [] (f ∷ []) (λ xs. IsRising reached (xs ++ outward nodes f (groups_round nodes f)))
      (λ _. more.0)
      (λ plain. (All-weaker (λ c. end_at nodes f ≤ reached c) (λ c. reached f ≤ reached c) (λ c _. omega (arith, itself_reached plain)) (outward nodes f (groups_round nodes f)) more.1, more.0))

-- where a candidate misses a node, so does each later one
pub misses_on : (must : Option ℕ) (one other : ℕ) → one ≤ other → lies_before must one ≡ true → lies_before must other ≡ true
misses_on None one other less misses = misses
misses_on (Some m) one other less misses = lt-ltb m other (omega (arith, ltb-true m one misses))
