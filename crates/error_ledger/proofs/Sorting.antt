-- A list with its members put in order one by one is ascending, and keeps the order of members that tie.
use Rattle.std.proofs.Common.{◌≡◌, ℕ, zero, suc, ◌+◌, ◌<◌, Bool, true, false, not, ◌&&◌, cond, List, [], ◌∷◌, length, get_or, sym, ap, ◌∙◌, refl, inl, inr, arith, true≢false, add-one}
use Rattle.std.specs.List.{filter}
use Rattle.std.specs.Cmp.{IsStrictWeakOrder}
use Rattle.std.specs.List.Sorted.{IsSortedBy, ties}
use Rattle.std.proofs.lemmas.Bool.{cases_Bool}
use Rattle.std.proofs.lemmas.Cmp.{nat_list_cmp_total}
use Rattle.std.proofs.lemmas.List.Sorted.{ranks_by}
use Rattle.error_ledger.specs.declared.error.ErrorLine.{ErrorLine}
use Rattle.error_ledger.specs.Order.{key_of, is_before, put_before, sorted_by, in_order, IsAscending, KeepsTies}
use Rattle.error_ledger.proofs.Ascending.{NoneBelow, Rises}
use Rattle.error_ledger.proofs.ErrorOrder.{stable-unique}

head_none : {X : Type 0} (below : X → X → Bool) (x : X) (xs : List X) → NoneBelow below x xs → (d : X) → 0 < length xs → below (get_or xs 0 d) x ≡ false
head_none below x [] none d some = absurd (omega arith)
head_none below x (y ∷ ys) none d some = none.0

sorted_step : {X : Type 0} (below : X → X → Bool) (x : X) (xs : List X) → NoneBelow below x xs → IsSortedBy below xs
    → (k : ℕ) (d : X) → k + 1 < length (x ∷ xs) → below (get_or (x ∷ xs) (k + 1) d) (get_or (x ∷ xs) k d) ≡ false
sorted_step below x xs none sorted zero d high = head_none below x xs none d (omega arith)
sorted_step below x xs none sorted (suc n) d high = rw add-one (rw add-one at (sorted n d (omega arith) (omega arith)))

-- a list in which no later member is below an earlier one is sorted
rises-sorted : {X : Type 0} (below : X → X → Bool) (xs : List X) → Rises below xs → IsSortedBy below xs
rises-sorted below [] up = λ k d low high. absurd (omega arith)
rises-sorted below (x ∷ xs) up = λ k d low high. sorted_step below x xs up.0 (rises-sorted below xs up.1) k d (omega arith)

not_first : (a b : Bool) → (not a && not b) ≡ true → a ≡ false
not_first true b both = absurd (true≢false (sym both))
not_first false b both = refl

not_second : (a b : Bool) → (not a && not b) ≡ true → b ≡ false
not_second true b both = absurd (true≢false (sym both))
not_second false true both = absurd (true≢false (sym both))
not_second false false both = refl

module _ {X : Type 0} (below : X → X → Bool) (order : IsStrictWeakOrder below) where
  none_put : (y new : X) (xs : List X) → NoneBelow below y xs → below new y ≡ false → NoneBelow below y (put_before below new xs)
  none_put y new [] none not_under = (not_under, tt)
  none_put y new (x ∷ xs) none not_under = elim (cases_Bool (below x new)) [
    | inl under ↦ rw under (none.0, none_put y new xs none.1 not_under)
    | inr over ↦ rw over (not_under, none)
  ]

  none_further : (x y : X) (xs : List X) → below x y ≡ false → NoneBelow below x xs → NoneBelow below y xs
  none_further x y [] not_under none = tt
  none_further x y (z ∷ zs) not_under none = (order.chain z x y none.0 not_under, none_further x y zs not_under none.1)

  put_rises : (new : X) (xs : List X) → Rises below xs → Rises below (put_before below new xs)
  put_rises new [] up = (tt, tt)
  put_rises new (x ∷ xs) up = elim (cases_Bool (below x new)) [
    | inl under ↦ rw under (none_put x new xs up.0 (order.one_way x new under), put_rises new xs up.1)
    | inr over ↦ rw over ((over, none_further x new xs over up.0), up)
  ]

  sorted_rises : (xs : List X) → Rises below (sorted_by below xs)
  sorted_rises [] = tt
  sorted_rises (x ∷ xs) = put_rises x (sorted_by below xs) (sorted_rises xs)

  -- of two members of which one is below the other, only one ties with z
  one_ties : (x new z : X) → below x new ≡ true → ties below z new ≡ true → ties below z x ≡ false
  one_ties x new z under tied = elim (cases_Bool (ties below z x)) [
    | inr apart ↦ apart
    | inl also ↦ absurd (true≢false (sym under ∙ order.chain x z new (not_second (below z x) (below x z) also) (not_first (below z new) (below new z) tied)))
  ]

  put_ties : (z new : X) (xs : List X) → filter (ties below z) (put_before below new xs) ≡ filter (ties below z) (new ∷ xs)
  put_ties z new [] = refl
  put_ties z new (x ∷ xs) = elim (cases_Bool (below x new)) [
    | inr over ↦ rw over refl
    | inl under ↦ rw (under, put_ties z new xs) (elim (cases_Bool (ties below z new)) [
      | inl tied ↦ rw (tied, one_ties x new z under tied) refl
      | inr apart ↦ rw apart refl
    ])
  ]

  sorted_ties : (xs : List X) (z : X) → filter (ties below z) (sorted_by below xs) ≡ filter (ties below z) xs
  sorted_ties [] z = refl
  sorted_ties (x ∷ xs) z =
      put_ties z x (sorted_by below xs) ∙ ap (λ (ys : List X). cond (ties below z x) (x ∷ ys) ys) (sorted_ties xs z)

-- the errors in order are ascending
pub in_order-ascending : (errors : List ErrorLine) → IsAscending (in_order errors)
unfolding in_order
in_order-ascending errors =
    rises-sorted is_before (sorted_by is_before errors) (sorted_rises is_before (ranks_by nat_list_cmp_total key_of) errors)

-- and those of one key are as they were
pub in_order-ties : (errors : List ErrorLine) → KeepsTies errors (in_order errors)
unfolding in_order
in_order-ties errors = sorted_ties is_before (ranks_by nat_list_cmp_total key_of) errors

-- so that an ascending list which keeps them so is that list
pub ordered-is : (errors ordered : List ErrorLine) → IsAscending ordered → KeepsTies errors ordered → ordered ≡ in_order errors
ordered-is errors ordered up ties =
    stable-unique errors ordered (in_order errors) up ties (in_order-ascending errors) (in_order-ties errors)
