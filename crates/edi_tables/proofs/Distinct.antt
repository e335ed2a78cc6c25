-- No candidate occurs twice after an entry.
use Rattle.std.proofs.Common.{◌≡◌, ℕ, zero, suc, ◌+◌, ◌-◌, ◌<◌, ◌≤◌, Bool, true, false, List, [], ◌∷◌, ◌++◌, Some, map, length, take, get_or, refl, sym, ap, ◌∙◌, ◌⊎◌, inl, inr, ⊎_elim, arith}
use Rattle.std.specs.Prelude.{filter}
use Rattle.std.specs.List.{All, range_with_len}
use Rattle.std.proofs.lemmas.Bool.{cond_both, cases_lt, false≢true}
use Rattle.std.proofs.lemmas.List.Elements.{All-nil, All-cons, All-head, All-tail, All-append, All-filter, All-map, All-weaker, All-get_or}
use Rattle.edi_tables.specs.declared.table.Node.{Node}
use Rattle.edi_tables.specs.Rows.{IsTable}
use Rattle.edi_tables.specs.Walk.{parent_at, end_at, is_group_at, is_trigger_at, entry_for, are_siblings, later_siblings, groups_round, outward, candidates_of}
use Rattle.edi_tables.specs.Collisions.{is_follower, followers_of}
use Rattle.edi_tables.proofs.TableLaws.{HasTableLaws, table_laws}
use Rattle.edi_tables.proofs.Places.{Passes, passing_each}
use Rattle.edi_tables.proofs.Stepping.{same_parent, parent_of_round}
use Rattle.edi_tables.proofs.Reaching.{trigger_is}

-- a number that is none of these
abbrev pub NotIn : List ℕ → ℕ → Type 0
NotIn xs x = All (λ y. x ≡ y → ⊥) xs

-- no two of these are the same
abbrev pub Apart : List ℕ → Type 0
Apart [] = Unit {0}
Apart (x ∷ xs) = NotIn xs x × Apart xs

-- two lists with no member in common
apart_append : (xs ys : List ℕ) → Apart xs → Apart ys → All (NotIn ys) xs → Apart (xs ++ ys)
apart_append [] ys one two cross = two
apart_append (x ∷ xs) ys one two cross = (
  All-append (λ y. x ≡ y → ⊥) xs ys one.0 (All-head (NotIn ys) x xs cross),
  apart_append xs ys one.1 two (All-tail (NotIn ys) x xs cross),
)

-- what is kept stays different
apart_filter : (p : ℕ → Bool) (xs : List ℕ) → Apart xs → Apart (filter p xs)
apart_filter p [] apart = tt
apart_filter p (x ∷ xs) apart =
    cond_both (p x) (x ∷ filter p xs) (filter p xs) Apart
    (λ _. (All-filter p (λ y. x ≡ y → ⊥) xs apart.0, apart_filter p xs apart.1)) (λ _. apart_filter p xs apart.1)

-- none of the first few is the next one
pub apart_take : (xs : List ℕ) (j : ℕ) → j < length xs → Apart xs → All (λ x. x ≡ get_or xs j 0 → ⊥) (take j xs)
apart_take [] j within apart = absurd (omega arith)
apart_take (x ∷ xs) zero within apart = All-nil (λ y. y ≡ x → ⊥)
apart_take (x ∷ xs) (suc j) within apart =
    All-cons (λ y. y ≡ get_or xs j 0 → ⊥) x (take j xs) (All-get_or (λ y. x ≡ y → ⊥) xs j 0 (omega arith) apart.0) (apart_take xs j (omega arith) apart.1)

-- what is made of different places that pass
apart_made : (made : ℕ → ℕ) (p : ℕ → Bool) → ((j k : ℕ) → j < k → p j ≡ true → p k ≡ true → made j ≡ made k → ⊥) → (n a : ℕ) → Apart (map made (filter p (range_with_len a n)))
apart_made made p differ zero a = tt
apart_made made p differ (suc n) a =
    let rest : List ℕ = filter p (range_with_len (a + 1) n) in
    cond_both (p a) (a ∷ rest) rest (λ xs. Apart (map made xs))
    (λ passes. (
      All-map (λ y. made a ≡ y → ⊥) made rest
          (All-weaker (Passes p (a + 1) (a + 1 + n)) (λ k. made a ≡ made k → ⊥) (λ k here. differ a k (omega (arith, here.0)) passes here.2) rest (passing_each p n (a + 1) (a + 1 + n) refl)),
      apart_made made p differ n (a + 1),
    ))
    (λ _. apart_made made p differ n (a + 1))

module _ (nodes : List Node) (table : IsTable nodes) where
  laws : HasTableLaws nodes
  laws = table_laws nodes table

  -- the entry of a later sibling of i
  abbrev pub IsLater : ℕ → ℕ → Type 0
  IsLater i x = (end_at nodes i ≤ x) × (i < x) × ((g : ℕ) → parent_at nodes i ≡ Some g → x < end_at nodes g)

  -- an entry is no earlier than its node
  entry_low : (j : ℕ) → j ≤ entry_for nodes j
  entry_low j = cond_both (is_group_at nodes j) (j + 1) j (λ x. j ≤ x) (λ _. omega arith) (λ _. omega arith)

  -- a sibling is not inside a node
  pub not_inside : (i j : ℕ) → i < j → parent_at nodes i ≡ parent_at nodes j → end_at nodes i ≤ j
  not_inside i j past same = ⊎_elim
      (λ inside. let held = laws.held_inside i j past inside in absurd (omega (arith, held.1, laws.parent_before i held.0 (same ∙ held.2))))
      (λ later. later) (cases_lt j (end_at nodes i))

  -- the entry of a sibling is before the end of their group
  in_parent : (i j g : ℕ) → parent_at nodes i ≡ parent_at nodes j → parent_at nodes i ≡ Some g → entry_for nodes j < end_at nodes g
  in_parent i j g same up =
      let held : parent_at nodes j ≡ Some g = sym same ∙ up in
      cond_both (is_group_at nodes j) (j + 1) j (λ x. x < end_at nodes g)
      (λ group. omega (arith, laws.before_parent_end (j + 1) j (laws.trigger_parent j group), laws.end_in_parent j g held))
      (λ _. laws.before_parent_end j g held)

  -- a later sibling has such an entry
  later_is : (i j : ℕ) → i < j → are_siblings nodes i j ≡ true → IsLater i (entry_for nodes j)
  later_is i j past siblings =
      let same = same_parent (parent_at nodes i) (parent_at nodes j) siblings in
      (omega (arith, not_inside i j past same, entry_low j), omega (arith, entry_low j), λ g up. in_parent i j g same up)

  -- the entries of the later siblings
  abbrev pub level : ℕ → List ℕ
  level i = map (entry_for nodes) (later_siblings nodes i)

  -- each of them is such an entry
  pub level_later : (i : ℕ) → All (IsLater i) (level i)
  unfolding later_siblings
  level_later i =
      let count : ℕ = length nodes - (i + 1) in
      All-map (IsLater i) (entry_for nodes) (later_siblings nodes i)
      (All-weaker (Passes (are_siblings nodes i) (i + 1) (i + 1 + count)) (λ j. IsLater i (entry_for nodes j)) (λ j here. later_is i j (omega (arith, here.0)) here.2)
      (later_siblings nodes i) (passing_each (are_siblings nodes i) count (i + 1) (i + 1 + count) refl))

  -- two siblings have different entries
  entries_differ : (i j k : ℕ) → j < k → are_siblings nodes i j ≡ true → are_siblings nodes i k ≡ true → entry_for nodes j ≡ entry_for nodes k → ⊥
  entries_differ i j k less one two equal =
      let same : parent_at nodes j ≡ parent_at nodes k =
      sym (same_parent (parent_at nodes i) (parent_at nodes j) one) ∙ same_parent (parent_at nodes i) (parent_at nodes k) two in
      let low : k ≤ entry_for nodes j = omega (arith, entry_low k) in
      cond_both (is_group_at nodes j) (j + 1) j (λ x. k ≤ x → ⊥)
      (λ group up. let here : k ≡ j + 1 = omega arith in omega (arith, laws.parent_before j j (same ∙ ap (parent_at nodes) here ∙ laws.trigger_parent j group)))
      (λ _ up. omega arith) low

  -- so no two of the entries of one level are the same
  level_apart : (i : ℕ) → Apart (level i)
  unfolding later_siblings
  level_apart i = apart_made (entry_for nodes) (are_siblings nodes i) (entries_differ i) (length nodes - (i + 1)) (i + 1)

  -- a candidate outwards of i: the trigger of a group round it, or it is after the end of i
  abbrev pub IsOutward : ℕ → ℕ → Type 0
  IsOutward i c = ((c ≤ i) × (is_trigger_at nodes c ≡ true)) ⊎ ((end_at nodes i ≤ c) × (i < c))

  -- each candidate outwards is of one of these two kinds
  pub outward_parts : (groups : List ℕ) (i : ℕ) → groups ≡ groups_round nodes i → All (IsOutward i) (outward nodes i groups)
  outward_parts [] i is = All-weaker (IsLater i) (IsOutward i) (λ x later. inr (later.0, later.1)) (level i) (level_later i)
  outward_parts (g ∷ groups) i is =
      let up = parent_of_round nodes table i g groups (parent_at nodes i) refl is in
      let before : g < i = laws.parent_before i g up.0 in
      let further : All (IsOutward g) (outward nodes g groups) = outward_parts groups g up.1 in
      All-append (IsOutward i) (level i) ((g + 1) ∷ outward nodes g groups)
      (All-weaker (IsLater i) (IsOutward i) (λ x later. inr (later.0, later.1)) (level i) (level_later i))
      (All-cons (IsOutward i) (g + 1) (outward nodes g groups) (inl (omega arith, trigger_is nodes table g (laws.parent_is_group i g up.0)))
      (All-weaker (IsOutward g) (IsOutward i)
      (λ c part. ⊎_elim (λ low. inl (omega (arith, low.0), low.1)) (λ high. inr (omega (arith, high.0, laws.end_in_parent i g up.0), omega (arith, high.0, laws.before_parent_end i g up.0))) part)
      (outward nodes g groups) further))

  -- no two candidates outwards are the same
  outward_apart : (groups : List ℕ) (i : ℕ) → groups ≡ groups_round nodes i → Apart (outward nodes i groups)
  outward_apart [] i is = level_apart i
  outward_apart (g ∷ groups) i is =
      let up = parent_of_round nodes table i g groups (parent_at nodes i) refl is in
      let before : g < i = laws.parent_before i g up.0 in
      let first : g + 1 < end_at nodes g = laws.before_parent_end (g + 1) g (laws.trigger_parent g (laws.parent_is_group i g up.0)) in
      let rest : List ℕ = outward nodes g groups in
      let further : All (IsOutward g) rest = outward_parts groups g up.1 in
      let tail : NotIn rest (g + 1) =
      All-weaker (IsOutward g) (λ y. g + 1 ≡ y → ⊥) (λ c part same. ⊎_elim (λ low. omega (arith, low.0)) (λ high. omega (arith, high.0)) part) rest further in
      let cross : (x : ℕ) → IsLater i x → NotIn ((g + 1) ∷ rest) x =
      λ x later. All-cons (λ y. x ≡ y → ⊥) (g + 1) rest (λ same. omega (arith, later.1))
      (All-weaker (IsOutward g) (λ y. x ≡ y → ⊥) (λ c part same. ⊎_elim (λ low. omega (arith, low.0, later.1)) (λ high. omega (arith, high.0, later.2 g up.0)) part) rest further) in
      apart_append (level i) ((g + 1) ∷ rest) (level_apart i) (tail, outward_apart groups g up.1) (All-weaker (IsLater i) (NotIn ((g + 1) ∷ rest)) cross (level i) (level_later i))

  -- no candidate occurs twice after an entry
  pub candidates_apart : (f : ℕ) → Apart (candidates_of nodes f)
  unfolding candidates_of
  candidates_apart f =
      let rest : List ℕ = outward nodes f (groups_round nodes f) in
      let apart : Apart rest = outward_apart (groups_round nodes f) f refl in
      let tail : is_trigger_at nodes f ≡ false → NotIn rest f =
      λ plain. All-weaker (IsOutward f) (λ y. f ≡ y → ⊥)
      (λ c part same. ⊎_elim (λ low. false≢true (sym plain ∙ ap (is_trigger_at nodes) same ∙ low.1)) (λ high. omega (arith, high.1)) part) rest (outward_parts (groups_round nodes f) f refl) in
      cond_both (is_trigger_at nodes f) [] (f ∷ []) (λ xs. Apart (xs ++ rest)) (λ _. apart) (λ plain. (tail plain, apart))

  -- no follower occurs twice after an entry
  pub followers_apart : (f : ℕ) → Apart (followers_of nodes f)
  unfolding followers_of
  followers_apart f = apart_filter (is_follower nodes f) (candidates_of nodes f) (candidates_apart f)
