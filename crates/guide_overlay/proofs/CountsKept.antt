-- The counts of a walk through a narrowed table are those of the same walk through the base.
use Rattle.std.proofs.Common.{◌≡◌, ℕ, zero, suc, ◌+◌, ◌-◌, ◌<◌, Bool, true, cond, List, [], ◌∷◌, ◌++◌, Option, Some, None, map, length, refl, sym, ap, ◌∙◌, inl, inr, arith}
use Rattle.std.specs.Prelude.{count_by, slice_index}
use Rattle.std.specs.List.{after_last, filter_map}
use Rattle.std.specs.Option.{option_map}
use Rattle.std.proofs.lemmas.Bool.{cases_Bool}
use Rattle.std.proofs.lemmas.List.{length-map, map_push}
use Rattle.std.proofs.lemmas.List.Sums.{sum_by-cons}
use Rattle.edi_tables.specs.declared.table.Node.{Node}
use Rattle.edi_tables.specs.Rows.{IsTable}
use Rattle.edi_tables.specs.Walk.{parent_at, is_group_at}
use Rattle.edi_tables.specs.Placement.{is_at, from_last, placed_since, placed_after, entry_count, group_count, last_placed}
use Rattle.edi_tables.proofs.Pushing.{by_last, after_yes, after_no, since_yes, since_no}
use Rattle.edi_tables.proofs.TableLaws.{HasTableLaws, table_laws}
use Rattle.guide_overlay.specs.Narrows.{Narrows}
use Rattle.guide_overlay.proofs.GroupsKept.{same_kept, trigger_next}

-- a list that is moved, and two tests that agree on it
module _ (moved : Option ℕ → Option ℕ) (p q : Option ℕ → Bool) (agree : (x : Option ℕ) → q (moved x) ≡ p x) where
  count_moved : (xs : List (Option ℕ)) → count_by q (map moved xs) ≡ count_by p xs
  count_moved [] = refl
  count_moved (x ∷ xs) =
      sum_by-cons (λ y. cond (q y) 1 0) (moved x) (map moved xs)
      ∙ ap (λ b. cond b 1 0 + count_by q (map moved xs)) (agree x) ∙ ap (λ n. cond (p x) 1 0 + n) (count_moved xs)
      ∙ sym (sum_by-cons (λ y. cond (p y) 1 0) x xs)

  since_moved : (xs : List (Option ℕ)) → from_last q (map moved xs) ≡ map moved (from_last p xs)
  since_moved xs =
      by_last (λ ys. from_last q (map moved ys) ≡ map moved (from_last p ys)) refl
      (λ ys y same. elim (cases_Bool (p y)) [
        | inl passes ↦ ap (from_last q) (map_push moved ys y) ∙ since_yes q (map moved ys) (moved y) (agree y ∙ passes) ∙ sym (ap (map moved) (since_yes p ys y passes))
        | inr fails ↦ ap (from_last q) (map_push moved ys y) ∙ since_no q (map moved ys) (moved y) (agree y ∙ fails) ∙ ap (λ front. front ++ moved y ∷ []) same
            ∙ sym (ap (map moved) (since_no p ys y fails) ∙ map_push moved (from_last p ys) y)
      ]) xs

  after_moved : (xs : List (Option ℕ)) → after_last q (map moved xs) ≡ map moved (after_last p xs)
  after_moved xs =
      by_last (λ ys. after_last q (map moved ys) ≡ map moved (after_last p ys)) refl
      (λ ys y same. elim (cases_Bool (p y)) [
        | inl passes ↦ ap (after_last q) (map_push moved ys y) ∙ after_yes q (map moved ys) (moved y) (agree y ∙ passes) ∙ sym (ap (map moved) (after_yes p ys y passes))
        | inr fails ↦ ap (after_last q) (map_push moved ys y) ∙ after_no q (map moved ys) (moved y) (agree y ∙ fails) ∙ ap (λ front. front ++ moved y ∷ []) same
            ∙ sym (ap (map moved) (after_no p ys y fails) ∙ map_push moved (after_last p ys) y)
      ]) xs

entries_moved : (to : ℕ → ℕ) (placed : List (Option ℕ)) → filter_map (λ (p : Option ℕ). p) (map (option_map to) placed) ≡ map to (filter_map (λ (p : Option ℕ). p) placed)
entries_moved to [] = refl
entries_moved to (None ∷ placed) = entries_moved to placed
entries_moved to (Some x ∷ placed) = ap (λ more. to x ∷ more) (entries_moved to placed)

pub index_moved : (to : ℕ → ℕ) → to 0 ≡ 0 → (xs : List ℕ) (k : ℕ) → slice_index (map to xs) k ≡ to (slice_index xs k)
index_moved to first [] k = sym first
index_moved to first (x ∷ xs) zero = refl
index_moved to first (x ∷ xs) (suc k) = index_moved to first xs k

module _ (base nodes : List Node) (to : ℕ → ℕ) (narrows : Narrows base nodes to) where
  -- the entry that was placed last
  pub last_kept : (placed : List (Option ℕ)) → last_placed (map (option_map to) placed) ≡ to (last_placed placed)
  last_kept placed =
      let entries : List ℕ = filter_map (λ (p : Option ℕ). p) placed in
      ap (λ (xs : List ℕ). slice_index xs (length xs - 1)) (entries_moved to placed)
      ∙ ap (λ (n : ℕ). slice_index (map to entries) (n - 1)) (length-map entries to)
      ∙ index_moved to narrows.first entries (length entries - 1)

  at_kept : (c : ℕ) (placed : Option ℕ) → is_at (to c) (option_map to placed) ≡ is_at c placed
  at_kept c None = refl
  at_kept c (Some x) = same_kept base nodes to narrows x c

  module _ (outer : IsTable base) (inner : IsTable nodes) where
    laws : HasTableLaws nodes
    laws = table_laws nodes inner

    next_at : (g : ℕ) → is_group_at nodes g ≡ true → (placed : Option ℕ) → is_at (to g + 1) (option_map to placed) ≡ is_at (g + 1) placed
    next_at g group placed = ap (λ (n : ℕ). is_at n (option_map to placed)) (sym (trigger_next base nodes to narrows outer inner g group)) ∙ at_kept (g + 1) placed

    since_kept : (found : Option ℕ) → ((g : ℕ) → found ≡ Some g → is_group_at nodes g ≡ true) → (placed : List (Option ℕ)) → placed_since (option_map to found) (map (option_map to) placed) ≡ map (option_map to) (placed_since found placed)
    since_kept None groups placed = refl
    since_kept (Some g) groups placed = since_moved (option_map to) (is_at (g + 1)) (is_at (to g + 1)) (next_at g (groups g refl)) placed

    after_kept : (found : Option ℕ) → ((g : ℕ) → found ≡ Some g → is_group_at nodes g ≡ true) → (placed : List (Option ℕ)) → placed_after (option_map to found) (map (option_map to) placed) ≡ map (option_map to) (placed_after found placed)
    after_kept None groups placed = refl
    after_kept (Some g) groups placed = after_moved (option_map to) (is_at (g + 1)) (is_at (to g + 1)) (next_at g (groups g refl)) placed

    -- the count of an entry
    pub entry_count_kept : (placed : List (Option ℕ)) (c : ℕ) → c < length nodes → entry_count base (map (option_map to) placed) (to c) ≡ entry_count nodes placed c
    unfolding entry_count
    entry_count_kept placed c within =
        ap (λ found. count_by (is_at (to c)) (placed_since found (map (option_map to) placed))) (narrows.parent c within)
        ∙ ap (count_by (is_at (to c))) (since_kept (parent_at nodes c) (λ g is. laws.parent_is_group c g is) placed)
        ∙ count_moved (option_map to) (is_at c) (is_at (to c)) (at_kept c) (placed_since (parent_at nodes c) placed)

    -- the count of a group
    pub group_count_kept : (placed : List (Option ℕ)) (g : ℕ) → is_group_at nodes g ≡ true → group_count base (map (option_map to) placed) (to g) ≡ group_count nodes placed g
    unfolding group_count
    group_count_kept placed g group =
        ap (λ found. count_by (is_at (to g + 1)) (placed_after found (map (option_map to) placed))) (narrows.parent g (omega (arith, laws.trigger_within g group)))
        ∙ ap (count_by (is_at (to g + 1))) (after_kept (parent_at nodes g) (λ h is. laws.parent_is_group g h is) placed)
        ∙ count_moved (option_map to) (is_at (g + 1)) (is_at (to g + 1)) (next_at g group) (placed_after (parent_at nodes g) placed)
