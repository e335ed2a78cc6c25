-- Errors in order: the order of the five numbers, and when a list of errors in order is fixed.
use Rattle.std.proofs.Common.{◌≡◌, ℕ, ◌+◌, ◌<◌, ◌↔◌, IsTrue, Bool, true, false, not, Option, Some, List, [], ◌∷◌, length, get_or, map, sym, ap, ◌∙◌, refl, arith, true≢false}
use Rattle.std.specs.List.{Contains, IsAllAdjacentAnswer}
use Rattle.std.specs.Ordering.{nat_cmp, ordering_then, ordering_reverse, is_lt, is_le, is_gt, is_some_and, partial_le, MatchOrdering}
use Rattle.std.specs.declared.cmp.Ordering.{Ordering}
use Rattle.std.specs.declared.cmp.Ordering.TheVariants.{Less, Equal, Greater}
use Rattle.std.specs.Cmp.Lexicographic.{slice_partial_cmp, lists_agrees}
use Rattle.std.specs.List.Sorted.{IsPermutation}
use Rattle.std.proofs.lemmas.Cmp.{nat_list_cmp_total, ranked}
use Rattle.error_ledger.specs.declared.error.ErrorLine.{ErrorLine}
use Rattle.error_ledger.specs.Order.{key_of, compare_keys, IsAscending, KeepsTies}
use Rattle.error_ledger.proofs.Ascending.{sorted_keys-unique, sorted-unique, stable_order-unique}

number_apart : (x y : ℕ) (o : Ordering) → MatchOrdering o (x < y) (x ≡ y) (y < x) → o ≡ Equal → x ≡ y
number_apart x y Less ranks same = absurd (true≢false (ap is_lt same))
number_apart x y Equal ranks same = ranks
number_apart x y Greater ranks same = absurd (true≢false (ap is_gt same))

first_equal : (o p : Ordering) → ordering_then o p ≡ Equal → o ≡ Equal
first_equal Less p same = same
first_equal Equal p same = refl
first_equal Greater p same = same

second_equal : (o p : Ordering) → ordering_then o p ≡ Equal → p ≡ Equal
second_equal Less p same = absurd (true≢false (ap is_lt same))
second_equal Equal p same = same
second_equal Greater p same = absurd (true≢false (ap is_gt same))

-- no two keys tie
pub compare_keys-apart : (a b : List ℕ) → compare_keys a b ≡ Equal → a ≡ b
compare_keys-apart [] [] same = refl
compare_keys-apart [] (y ∷ ys) same = absurd (true≢false (ap is_lt same))
compare_keys-apart (x ∷ xs) [] same = absurd (true≢false (ap is_gt same))
compare_keys-apart (x ∷ xs) (y ∷ ys) same =
    let head : x ≡ y = number_apart x y (nat_cmp x y) (ranked x y (nat_cmp x y) refl) (first_equal (nat_cmp x y) (compare_keys xs ys) same) in
    let rest : xs ≡ ys = compare_keys-apart xs ys (second_equal (nat_cmp x y) (compare_keys xs ys) same) in
    λ i. head i ∷ rest i

-- two orders of the same errors have the same five numbers, place by place
pub ascending_keys-unique : (xs ys : List ErrorLine) → IsAscending xs → IsAscending ys → IsPermutation xs ys → map key_of xs ≡ map key_of ys
ascending_keys-unique xs ys = sorted_keys-unique key_of nat_list_cmp_total compare_keys-apart xs ys

-- errors of which no two that differ have one key have one order
pub ascending-unique : (xs ys : List ErrorLine) → ((one other : ErrorLine) → Contains xs one → Contains xs other → key_of one ≡ key_of other → one ≡ other)
    → IsAscending xs → IsAscending ys → IsPermutation xs ys → xs ≡ ys
ascending-unique xs ys = sorted-unique key_of nat_list_cmp_total compare_keys-apart xs ys

-- any errors have one order that keeps those of one key as they were
pub stable-unique : (xs ys zs : List ErrorLine) → IsAscending ys → KeepsTies xs ys → IsAscending zs → KeepsTies xs zs → ys ≡ zs
stable-unique xs ys zs = stable_order-unique key_of nat_list_cmp_total xs ys zs

-- the numbers of arrays, compared as `<=` does
abbrev pub compare_arrays : List ℕ → List ℕ → Option Ordering
compare_arrays = slice_partial_cmp (λ x y. Some (nat_cmp x y))

at_most_turned : (o : Ordering) → is_le (ordering_reverse o) ≡ not (is_lt o)
at_most_turned Less = refl
at_most_turned Equal = refl
at_most_turned Greater = refl

at_most_is : (a b : List ℕ) → partial_le compare_arrays a b ≡ not (is_lt (compare_keys b a))
at_most_is a b =
    ap (is_some_and is_le) (lists_agrees {R = nat_cmp} {C = λ x y. Some (nat_cmp x y)} (λ x y. refl) a b)
    ∙ ap is_le (nat_list_cmp_total.antisymm a b) ∙ at_most_turned (compare_keys b a)

turned_true : (b : Bool) → true ≡ not b → b ≡ false
turned_true true same = absurd (true≢false same)
turned_true false same = refl

turned_false : (b : Bool) → false ≡ not b → b ≡ true
turned_false true same = refl
turned_false false same = absurd (true≢false (sym same))

not_ascending : (xs : List ErrorLine) (k : ℕ) → k + 1 < length xs → ((d : ErrorLine) → false ≡ partial_le compare_arrays (key_of (get_or xs k d)) (key_of (get_or xs (k + 1) d))) → IsAscending xs → ⊥
not_ascending [] k within falls ascending = omega arith
not_ascending (x ∷ xs) k within falls ascending =
    let before = key_of (get_or (x ∷ xs) k x) in
    let after = key_of (get_or (x ∷ xs) (k + 1) x) in
    true≢false (sym (turned_false (is_lt (compare_keys after before)) (falls x ∙ at_most_is before after)) ∙ ascending k x (omega arith) within)

-- what a test of neighbours answers
pub ascending-tested : (xs : List ErrorLine) (r : Bool) → IsAllAdjacentAnswer (λ x y b. b ≡ partial_le compare_arrays (key_of x) (key_of y)) xs r → IsTrue r ↔ IsAscending xs
ascending-tested xs true answer = (
  λ _ k d low within. turned_true (is_lt (compare_keys (key_of (get_or xs (k + 1) d)) (key_of (get_or xs k d)))) (answer k d within ∙ at_most_is (key_of (get_or xs k d)) (key_of (get_or xs (k + 1) d))),
  λ _. refl,
)
ascending-tested xs false answer =
    (λ so. absurd (true≢false (sym so)), λ ascending. absurd (not_ascending xs answer.0 answer.1 answer.2 ascending))
