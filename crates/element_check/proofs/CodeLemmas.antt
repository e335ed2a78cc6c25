-- The codes of a list are in ascending order, so that halving finds a value among them.
use Rattle.std.proofs.Common.{◌≡◌, ◌≤◌, ℕ, true, List, [], ◌∷◌, length, get_or, Result, Ok, Err, refl, sym, ap, ◌∙◌, subst, arith, inl, inr, Ordering}
use Rattle.std.specs.Prelude.{is_ok}
use Rattle.std.specs.List.{list_any}
use Rattle.std.specs.List.Sorted.{IsBinarySearchResult, IsNonDecreasingBy, IsSearchInRange}
use Rattle.std.specs.declared.cmp.Ordering.TheVariants.{Less, Equal, Greater}
use Rattle.std.specs.Cmp.Lexicographic.{slice_cmp, texts_ties}
use Rattle.std.specs.Ordering.{nat_cmp, is_lt, is_eq, ordering_index}
use Rattle.std.specs.Str.{bytes_eq}
use Rattle.std.proofs.lemmas.Bool.{cases_lt}
use Rattle.std.proofs.lemmas.Cmp.{nat_list_cmp_total}
use Rattle.std.proofs.lemmas.List.Folds.{list_any_at, list_any_none}
use Rattle.std.proofs.lemmas.Slice.Eq.{bytes_eq-Decides}
use Rattle.edi_tables.specs.Ascending.{is_before, IsAscendingBy}
use Rattle.dir_compile.specs.Compile.{value_name}

less-from-before : (o : Ordering) → is_lt o ≡ true → o ≡ Less
less-from-before Less is = refl
less-from-before Equal is = absurd cc
less-from-before Greater is = absurd cc

at-most-two : (o : Ordering) → ordering_index o ≤ 2
at-most-two Less = omega arith
at-most-two Equal = omega arith
at-most-two Greater = omega arith

-- of two codes that ascend, the first isn't after a value where the second isn't
ranked : (a b value : List ℕ) → is_before a b ≡ true → (o : Ordering) → slice_cmp nat_cmp b value ≡ o → ordering_index (slice_cmp nat_cmp a value) ≤ ordering_index o
ranked a b value before Less is =
    let less : slice_cmp nat_cmp a value ≡ Less = nat_list_cmp_total.trans a b value (less-from-before _ before) is in
    rw less (omega arith)
ranked a b value before Equal is =
    let same : b ≡ value = (bytes_eq-Decides b value).0 (texts_ties b value ∙ ap is_eq is) in
    let less : slice_cmp nat_cmp a value ≡ Less = subst (λ v. slice_cmp nat_cmp a v ≡ Less) same (less-from-before _ before) in
    rw less (omega arith)
ranked a b value before Greater is = at-most-two (slice_cmp nat_cmp a value)

module _ (value : List ℕ) where
  abbrev rank : List ℕ → Ordering
  rank code = slice_cmp nat_cmp code value

  rises : (codes : List (List ℕ)) → IsAscendingBy value_name codes → IsNonDecreasingBy (λ code. ordering_index (rank code)) codes
  rises codes order i j d le within =
      elim (cases_lt i j) [
        | inl lt ↦ ranked (get_or codes i d) (get_or codes j d) value (order i j d lt within) (rank (get_or codes j d)) refl
        | inr ge ↦ let same : i ≡ j = omega arith in subst (λ k. ordering_index (rank (get_or codes i d)) ≤ ordering_index (rank (get_or codes k d))) same (omega arith)
      ]

  is-told : (code : List ℕ) (o : Ordering) → rank code ≡ o → bytes_eq code value ≡ is_eq o
  is-told code o is = texts_ties code value ∙ ap is_eq is

  -- halving finds a value exactly where it is a code of the list
  pub listed-searched : (codes : List (List ℕ)) (r : Result ℕ ℕ) → IsAscendingBy value_name codes → IsSearchInRange r (length codes) → IsBinarySearchResult rank codes r
      → is_ok r ≡ list_any (λ code. bytes_eq code value) codes
  listed-searched codes (Ok i) order within is =
      sym (list_any_at (λ code. bytes_eq code value) codes i value within (is-told (get_or codes i value) Equal (is value)))
  listed-searched codes (Err i) order within is =
      let parts = is (rises codes order) in
      sym (list_any_none (λ code. bytes_eq code value) codes (λ k d lt. elim (cases_lt k i) [
        | inl front ↦ is-told (get_or codes k d) Less (parts.0 k d (omega arith) front)
        | inr back ↦ is-told (get_or codes k d) Greater (parts.1 k d back lt)
      ]))

-- a code that goes on where a value ends is after it
pub longer-after : (rest octets : List ℕ) → 1 ≤ length rest → octets ≡ [] → Greater ≡ slice_cmp nat_cmp rest octets
longer-after [] octets some none = absurd (omega (arith, some))
longer-after (x ∷ xs) octets some none = ap (slice_cmp nat_cmp (x ∷ xs)) (sym none)
