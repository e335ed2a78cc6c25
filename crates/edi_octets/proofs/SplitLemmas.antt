-- The parts that a list is cut into.
use Rattle.std.proofs.Common.{◌≡◌, ◌⊎◌, ◌+◌, ◌<◌, ◌≤◌, Bool, true, false, List, [], ◌∷◌, length, refl, arith, inl, inr, ⊎_elim, take_all}
use Rattle.std.specs.List.{slice_split, position_or_len, before_first, after_first}
use Rattle.std.proofs.lemmas.Bool.{cases_Bool, cases_lt}
use Rattle.std.proofs.lemmas.List.{drop_all}
use Rattle.std.proofs.lemmas.List.Elements.{All-from_get_or}
use Rattle.std.proofs.lemmas.List.Sums.{fails_before_first}
use Rattle.std.proofs.lemmas.List.Splits.{slice_split_first, slice_split_none}

module _ {A : Type 0} (p : A → Bool) where
  -- there is always a first part
  pub first_part : (xs : List A) → (part : List A) × (parts : List (List A)) × (slice_split p xs ≡ part ∷ parts)
  first_part [] = ([], [], refl)
  first_part (x ∷ xs) =
      let behind = first_part xs in
      ⊎_elim
      (λ (cut : p x ≡ true). ([], slice_split p xs, rw cut refl))
      (λ (kept : p x ≡ false). (x ∷ behind.0, behind.1, rw (kept, behind.2) refl))
      (cases_Bool (p x))

  -- there is more than one part, or the list is the only one
  pub slice_split-cases : (xs : List A) → (slice_split p xs ≡ before_first p xs ∷ slice_split p (after_first p xs)) ⊎ ((slice_split p xs ≡ before_first p xs ∷ []) × (after_first p xs ≡ []))
  slice_split-cases [] = inr (refl, refl)
  slice_split-cases (x ∷ xs) =
      let all = x ∷ xs in
      let k = position_or_len p all in
      ⊎_elim
      (λ (lt : k < length all). inl (slice_split_first p all x lt))
      (λ (ge : length all ≤ k). inr (
        rw (take_all k all ge) (slice_split_none p all (All-from_get_or (λ y. p y ≡ false) all x (λ i lt. fails_before_first p all i x (omega arith)))),
        drop_all (k + 1) all (omega arith),
      ))
      (cases_lt k (length all))
