-- The groups round a node: its parent, and then those round that.
use Rattle.std.proofs.Common.{◌≡◌, ℕ, zero, suc, ◌+◌, ◌-◌, ◌<◌, ◌≤◌, Bool, true, false, List, [], ◌∷◌, ◌++◌, Option, Some, None, length, refl, sym, ap, ◌∙◌, ⊎_elim, arith}
use Rattle.std.specs.Prelude.{nat_lt, ◌&&◌, reverse, filter}
use Rattle.std.specs.List.{list_any, All, range_with_len}
use Rattle.std.proofs.lemmas.Bool.{lt-ltb, le-ltb, cases_lt, or_from, and_right}
use Rattle.std.proofs.lemmas.List.{reverse-append}
use Rattle.std.proofs.lemmas.List.Elements.{All-nil, All-cons}
use Rattle.edi_tables.specs.declared.table.Node.{Node}
use Rattle.edi_tables.specs.Walk.{parent_at, end_at, is_group_at, groups_round}
use Rattle.edi_tables.proofs.TableLaws.{HasTableLaws}
use Rattle.edi_tables.proofs.Stretches.{passing, passing_yes, passing_none, passing_same, passing_split}

and_yes : (a b : Bool) → a ≡ true → b ≡ true → (a && b) ≡ true
and_yes true b one two = two
and_yes false b one two = one

module _ (nodes : List Node) (laws : HasTableLaws nodes) where
  abbrev holds : ℕ → ℕ → Bool
  holds i g = is_group_at nodes g && nat_lt i (end_at nodes g)

  holds_not : (i g : ℕ) → (i < end_at nodes g → ⊥) → holds i g ≡ false
  holds_not i g none = and_right _ _ (le-ltb i (end_at nodes g) (⊎_elim (λ below. absurd (none below)) (λ past. past) (cases_lt i (end_at nodes g))))

  ends_alike : (i g k : ℕ) → parent_at nodes i ≡ Some g → k < g → nat_lt i (end_at nodes k) ≡ nat_lt g (end_at nodes k)
  ends_alike i g k is before = ⊎_elim
      (λ below. let inner : end_at nodes g ≤ end_at nodes k = laws.ends_inside k g before below in
      lt-ltb i (end_at nodes k) (omega (arith, laws.before_parent_end i g is)) ∙ sym (lt-ltb g (end_at nodes k) below))
      (λ past. le-ltb i (end_at nodes k) (omega (arith, laws.parent_before i g is)) ∙ sym (le-ltb g (end_at nodes k) past))
      (cases_lt g (end_at nodes k))

  groups_passing : (i : ℕ) → groups_round nodes i ≡ reverse (passing (holds i) 0 i)
  unfolding groups_round
  groups_passing i =
      let whole : i ≡ i - 0 = omega arith in
      ap (λ (n : ℕ). reverse (filter (holds i) (range_with_len 0 n))) whole

  pub groups_round_none : (i : ℕ) → parent_at nodes i ≡ None → groups_round nodes i ≡ []
  groups_round_none i is =
      groups_passing i ∙ ap reverse (passing_none (holds i) 0 i (λ k from below. holds_not i k (λ inside. absurd (none_some (sym is ∙ (laws.held_inside k i below inside).2)))))
    where
      none_some : {g : ℕ} → None ≡ Some g → ⊥
      none_some same = cc

  groups_split : (i g : ℕ) → parent_at nodes i ≡ Some g → passing (holds i) 0 i ≡ passing (holds g) 0 g ++ g ∷ []
  groups_split i g is =
      let before : g < i = laws.parent_before i g is in
      passing_split (holds i) 0 g i (omega arith) (omega arith)
      ∙ ap (λ front. front ++ passing (holds i) g i) (passing_same (holds i) (holds g) 0 g (λ k from below. ap (λ b. is_group_at nodes k && b) (ends_alike i g k is below)))
      ∙ ap (λ back. passing (holds g) 0 g ++ back)
      (passing_yes (holds i) g i before (and_yes _ _ (laws.parent_is_group i g is) (lt-ltb i (end_at nodes g) (laws.before_parent_end i g is)))
      ∙ ap (λ more. g ∷ more) (passing_none (holds i) (g + 1) i (λ k from below. holds_not i k (λ inside. between k from below inside))))
    where
      some_same : {a b : ℕ} → Some a ≡ Some b → a ≡ b
      some_same same = cc

      between : (k : ℕ) → g + 1 ≤ k → k < i → i < end_at nodes k → ⊥
      between k from below inside =
          let held = laws.held_inside k i below inside in
          let same : held.0 ≡ g = some_same (sym held.2 ∙ is) in
          omega (arith, held.1)

  pub groups_round_some : (i g : ℕ) → parent_at nodes i ≡ Some g → groups_round nodes i ≡ g ∷ groups_round nodes g
  groups_round_some i g is =
      groups_passing i ∙ ap reverse (groups_split i g is) ∙ reverse-append (passing (holds g) 0 g) (g ∷ [])
      ∙ ap (λ more. g ∷ more) (sym (groups_passing g))

  -- what holds of each parent holds of each group round a node
  all_by : (P : ℕ → Type 0) → ((i g : ℕ) → parent_at nodes i ≡ Some g → P g) → (n i : ℕ) (found : Option ℕ) → parent_at nodes i ≡ found → i ≤ n → All P (groups_round nodes i)
  all_by P each n i None is fuel = rw (groups_round_none i is) (All-nil P)
  all_by P each zero i (Some g) is fuel = absurd (omega (arith, laws.parent_before i g is))
  all_by P each (suc n) i (Some g) is fuel =
      rw (groups_round_some i g is) (All-cons P g (groups_round nodes g) (each i g is)
      (all_by P each n g (parent_at nodes g) refl (omega (arith, laws.parent_before i g is))))

  pub groups_all : (P : ℕ → Type 0) → ((i g : ℕ) → parent_at nodes i ≡ Some g → P g) → (i : ℕ) → All P (groups_round nodes i)
  groups_all P each i = all_by P each i i (parent_at nodes i) refl (omega arith)

  -- they are nodes of the table
  pub groups_within : (i : ℕ) → All (λ g. g < length nodes) (groups_round nodes i)
  groups_within i = groups_all (λ g. g < length nodes) (λ k g is. omega (arith, laws.parent_before k g is, laws.held_within k g is)) i

  -- a test that fails before a node fails at each group round it
  fail_by : (test : ℕ → Bool) (n i : ℕ) (found : Option ℕ) → parent_at nodes i ≡ found → i ≤ n → ((g : ℕ) → g < i → test g ≡ false) → list_any test (groups_round nodes i) ≡ false
  fail_by test n i None is fuel fails = ap (list_any test) (groups_round_none i is)
  fail_by test zero i (Some g) is fuel fails = absurd (omega (arith, laws.parent_before i g is))
  fail_by test (suc n) i (Some g) is fuel fails =
      let before : g < i = laws.parent_before i g is in
      ap (list_any test) (groups_round_some i g is)
      ∙ or_from _ _ (fails g before) (fail_by test n g (parent_at nodes g) refl (omega arith) (λ h below. fails h (omega arith)))

  pub groups_fail : (test : ℕ → Bool) (i : ℕ) → ((g : ℕ) → g < i → test g ≡ false) → list_any test (groups_round nodes i) ≡ false
  groups_fail test i fails = fail_by test i i (parent_at nodes i) refl (omega arith) fails
