-- Names in order, found by halving.
use Rattle.std.proofs.Common.{◌≡◌, ◌<◌, ◌≤◌, ◌+◌, ◌*◌, ℕ, Bool, true, false, List, [], ◌∷◌, length, get_or, Option, Some, None, Result, Ok, Err, is_some, Bor, refl, sym, ap, ◌∙◌, subst, arith, inl, inr, Ordering}
use Rattle.std.specs.Prelude.{slice_get, is_ok}
use Rattle.std.specs.List.{position_or_len}
use Rattle.std.specs.List.Sorted.{IsBinarySearchResult, IsNonDecreasingBy, IsSearchInRange}
use Rattle.std.specs.declared.cmp.Ordering.TheVariants.{Less, Equal, Greater}
use Rattle.std.specs.Cmp.Lexicographic.{slice_cmp, texts_ties}
use Rattle.std.specs.Ordering.{nat_cmp, is_lt, is_eq, ordering_index, ordering_then}
use Rattle.std.specs.Option.{option_copied}
use Rattle.std.specs.Result.{result_ok}
use Rattle.std.specs.Slice.{IsItemAt}
use Rattle.std.specs.Str.{bytes_eq}
use Rattle.std.specs.Cmp.{nat_cmp_is}
use Rattle.std.proofs.lemmas.Bool.{cases_lt, cases_order}
use Rattle.std.proofs.lemmas.Cmp.{nat_list_cmp_total}
use Rattle.std.proofs.lemmas.List.Folds.{find_at}
use Rattle.std.proofs.lemmas.List.Sums.{position_or_len_is}
use Rattle.std.proofs.lemmas.Option.{slice_get_past, slice_get_read, slice_get-get_or}
use Rattle.std.proofs.lemmas.Slice.Eq.{bytes_eq-Decides}
use Rattle.edi_tables.specs.Ascending.{is_before, IsAscendingBy}
use Rattle.edi_tables.proofs.AscendingLemmas.{differ-from-before}
use Rattle.dir_compile.specs.Compile.{named_in}
use Rattle.dir_store.proofs.LineLemmas.{some-is}

less-from-before : (o : Ordering) → is_lt o ≡ true → o ≡ Less
less-from-before Less is = refl
less-from-before Equal is = absurd cc
less-from-before Greater is = absurd cc

-- the order of a name and the one that is looked for
same-name : (a b : List ℕ) → slice_cmp nat_cmp a b ≡ Equal → a ≡ b
same-name a b is = (bytes_eq-Decides a b).0 (texts_ties a b ∙ ap is_eq is)

at-most-two : (o : Ordering) → ordering_index o ≤ 2
at-most-two Less = omega arith
at-most-two Equal = omega arith
at-most-two Greater = omega arith

ranked : (a b wanted : List ℕ) → is_before a b ≡ true → (o : Ordering) → slice_cmp nat_cmp b wanted ≡ o → ordering_index (slice_cmp nat_cmp a wanted) ≤ ordering_index o
ranked a b wanted before Less is =
    let less : slice_cmp nat_cmp a wanted ≡ Less = nat_list_cmp_total.trans a b wanted (less-from-before _ before) is in
    rw less (omega arith)
ranked a b wanted before Equal is =
    let less : slice_cmp nat_cmp a wanted ≡ Less = subst (λ w. slice_cmp nat_cmp a w ≡ Less) (same-name b wanted is) (less-from-before _ before) in
    rw less (omega arith)
ranked a b wanted before Greater is = at-most-two (slice_cmp nat_cmp a wanted)

-- the member at a place, if there is one
abbrev pub member_at : {A : Type 0} → List A → Result ℕ ℕ → Option A
member_at xs (Ok i) = slice_get xs i
member_at xs (Err i) = None

module _ {A : Type 0} (name : A → List ℕ) (wanted : List ℕ) where
  abbrev rank : A → Ordering
  rank x = slice_cmp nat_cmp (name x) wanted

  abbrev is_wanted : A → Bool
  is_wanted x = bytes_eq (name x) wanted

  rises : (xs : List A) → IsAscendingBy name xs → IsNonDecreasingBy (λ y. ordering_index (rank y)) xs
  rises xs order i j d le within =
      elim (cases_lt i j) [
        | inl lt ↦ ranked (name (get_or xs i d)) (name (get_or xs j d)) wanted (order i j d lt within) (rank (get_or xs j d)) refl
        | inr ge ↦ let same : i ≡ j = omega arith in subst (λ k. ordering_index (rank (get_or xs i d)) ≤ ordering_index (rank (get_or xs k d))) same (omega arith)
      ]

  other : (x : A) (o : Ordering) → rank x ≡ o → is_eq o ≡ false → is_wanted x ≡ false
  other x o is unequal = texts_ties (name x) wanted ∙ ap is_eq is ∙ unequal

  found : (x : A) (xs : List A) (i : ℕ) → IsAscendingBy name (x ∷ xs) → i < length (x ∷ xs) → rank (get_or (x ∷ xs) i x) ≡ Equal → named_in name (x ∷ xs) wanted ≡ slice_get (x ∷ xs) i
  found x xs i order within is =
      let all = x ∷ xs in
      let same = same-name (name (get_or all i x)) wanted is in
      let place : position_or_len is_wanted all ≡ i =
      position_or_len_is is_wanted all i x (omega arith)
      (λ k lt. subst (λ w. bytes_eq (name (get_or all k x)) w ≡ false) same (differ-from-before (name (get_or all k x)) (name (get_or all i x)) (order k i x lt within)))
      (λ _. texts_ties (name (get_or all i x)) wanted ∙ ap is_eq is) in
      find_at is_wanted all ∙ ap (slice_get all) place

  none : (x : A) (xs : List A) (i : ℕ) → i ≤ length (x ∷ xs) → ((k : ℕ) (d : A) → 0 ≤ k → k < i → rank (get_or (x ∷ xs) k d) ≡ Less) → ((k : ℕ) (d : A) → i ≤ k → k < length (x ∷ xs) → rank (get_or (x ∷ xs) k d) ≡ Greater) → named_in name (x ∷ xs) wanted ≡ None
  none x xs i within below above =
      let all = x ∷ xs in
      let place : position_or_len is_wanted all ≡ length all =
      position_or_len_is is_wanted all (length all) x (omega arith)
      (λ k lt. elim (cases_lt k i) [
        | inl front ↦ other (get_or all k x) Less (below k x (omega arith) front) refl
        | inr back ↦ other (get_or all k x) Greater (above k x back lt) refl
      ])
      (λ lt. absurd (omega arith)) in
      find_at is_wanted all ∙ ap (slice_get all) place ∙ slice_get_past all (length all) (omega arith)

  -- what is found by halving is what has the name
  pub named-searched : (xs : List A) (r : Result ℕ ℕ) → IsAscendingBy name xs → IsSearchInRange r (length xs) → IsBinarySearchResult rank xs r → named_in name xs wanted ≡ member_at xs r
  named-searched [] (Ok i) order within is = absurd (omega (arith, within))
  named-searched [] (Err i) order within is = refl
  named-searched (x ∷ xs) (Ok i) order within is = found x xs i order within (is x)
  named-searched (x ∷ xs) (Err i) order within is =
      let parts = is (rises (x ∷ xs) order) in
      none x xs i within parts.0 parts.1

  -- a member of the name is the one that is found, at whatever place
  pub named-item : (xs : List A) (i : ℕ) (x : Bor A) → IsAscendingBy name xs → IsItemAt xs i (Some x) → name x.now ≡ wanted → Some x.now ≡ named_in name xs wanted
  named-item xs i x order item is =
      let at : slice_get xs i ≡ Some x.now = slice_get_read xs (length xs) i x.now refl item.3.0 item.1 in
      let same : name (get_or xs i x.now) ≡ wanted = ap name (sym item.1) ∙ is in
      let place : position_or_len is_wanted xs ≡ i =
      position_or_len_is is_wanted xs i x.now (omega (arith, item.3.0))
      (λ k lt. subst (λ w. bytes_eq (name (get_or xs k x.now)) w ≡ false) same (differ-from-before (name (get_or xs k x.now)) (name (get_or xs i x.now)) (order k i x.now lt item.3.0)))
      (λ _. (bytes_eq-Decides (name (get_or xs i x.now)) wanted).1 same) in
      sym (find_at is_wanted xs ∙ ap (slice_get xs) place ∙ at)

-- and there is one exactly where the search finds a place
pub searched-some : {A : Type 0} (xs : List A) (r : Result ℕ ℕ) → IsSearchInRange r (length xs) → is_ok r ≡ is_some (member_at xs r)
searched-some [] (Ok i) within = absurd (omega (arith, within))
searched-some (x ∷ xs) (Ok i) within = sym (ap is_some (slice_get-get_or (x ∷ xs) i x within))
searched-some xs (Err i) within = refl

pub nowhere : {A : Type 0} (xs : List A) (r : Result ℕ ℕ) → result_ok r ≡ None → member_at xs r ≡ None
nowhere xs (Ok i) is = absurd cc
nowhere xs (Err i) is = refl

pub somewhere : {A : Type 0} (xs : List A) (r : Result ℕ ℕ) (i : ℕ) → result_ok r ≡ Some i → member_at xs r ≡ slice_get xs i
somewhere xs (Ok i) j is = ap (slice_get xs) (some-is i j is)
somewhere xs (Err i) j is = absurd cc

-- what a slice has at a place
pub copied-at : {X : Type 0} (xs : List X) (i : ℕ) (r : Option (Bor X)) → IsItemAt xs i r → option_copied r ≡ slice_get xs i
copied-at xs i None item = sym (slice_get_past xs i item.3)
copied-at xs i (Some x) item = sym (slice_get_read xs (length xs) i x.now refl item.3.0 item.1)

-- two tags are compared octet by octet
then_equal : (o : Ordering) → o ≡ ordering_then o Equal
then_equal Less = refl
then_equal Equal = refl
then_equal Greater = refl

abbrev pub by_octets : List ℕ → List ℕ → Ordering
by_octets a b =
    ordering_then (nat_cmp (get_or a 0 0) (get_or b 0 0)) (ordering_then (nat_cmp (get_or a 1 0) (get_or b 1 0)) (nat_cmp (get_or a 2 0) (get_or b 2 0)))

other_compared : (x y z : ℕ) (b : List ℕ) → length b ≡ 3 → by_octets (x ∷ y ∷ z ∷ []) b ≡ slice_cmp nat_cmp (x ∷ y ∷ z ∷ []) b
other_compared x y z [] long = absurd (omega arith)
other_compared x y z (a ∷ []) long = absurd (omega arith)
other_compared x y z (a ∷ b ∷ []) long = absurd (omega arith)
other_compared x y z (a ∷ b ∷ d ∷ []) long = ap (λ o. ordering_then (nat_cmp x a) (ordering_then (nat_cmp y b) o)) (then_equal (nat_cmp z d))
other_compared x y z (a ∷ b ∷ d ∷ e ∷ more) long = absurd (omega arith)

-- an order by two numbers, the second asked where the first are equal, is that of two other numbers
then_order : (x a : ℕ) (rest : Ordering) (n m : ℕ) → (x < a → n < m) → (a < x → m < n) → (x ≡ a → rest ≡ nat_cmp n m) → ordering_then (nat_cmp x a) rest ≡ nat_cmp n m
then_order x a rest n m less more same = elim (cases_order x a) [
  | inl equal ↦ ap (λ o. ordering_then o rest) (sym (nat_cmp_is x a Equal equal)) ∙ same equal
  | inr differ ↦ elim differ [
    | inl below ↦ ap (λ o. ordering_then o rest) (sym (nat_cmp_is x a Less below)) ∙ nat_cmp_is n m Less (less below)
    | inr above ↦ ap (λ o. ordering_then o rest) (sym (nat_cmp_is x a Greater above)) ∙ nat_cmp_is n m Greater (more above)
  ]
]

-- three octets as one number: the first counts most
abbrev pub number_of : List ℕ → ℕ
number_of a = get_or a 0 0 * 65536 + get_or a 1 0 * 256 + get_or a 2 0

by_number : (x y z a b d : ℕ) → y < 256 → z < 256 → b < 256 → d < 256 → ordering_then (nat_cmp x a) (ordering_then (nat_cmp y b) (nat_cmp z d)) ≡ nat_cmp (x * 65536 + y * 256 + z) (a * 65536 + b * 256 + d)
by_number x y z a b d y_small z_small b_small d_small =
    then_order x a (ordering_then (nat_cmp y b) (nat_cmp z d)) (x * 65536 + y * 256 + z) (a * 65536 + b * 256 + d) (λ h. omega arith) (λ h. omega arith)
    (λ first. then_order y b (nat_cmp z d) (x * 65536 + y * 256 + z) (a * 65536 + b * 256 + d) (λ h. omega arith) (λ h. omega arith)
    (λ second. then_equal (nat_cmp z d)
    ∙ then_order z d Equal (x * 65536 + y * 256 + z) (a * 65536 + b * 256 + d) (λ h. omega arith) (λ h. omega arith) (λ third. nat_cmp_is (x * 65536 + y * 256 + z) (a * 65536 + b * 256 + d) Equal (omega arith))))

tags_compared : (a b : List ℕ) → length a ≡ 3 → length b ≡ 3 → slice_cmp nat_cmp a b ≡ by_octets a b
tags_compared [] b long other = absurd (omega arith)
tags_compared (x ∷ []) b long other = absurd (omega arith)
tags_compared (x ∷ y ∷ []) b long other = absurd (omega arith)
tags_compared (x ∷ y ∷ z ∷ []) b long other = sym (other_compared x y z b other)
tags_compared (x ∷ y ∷ z ∷ w ∷ more) b long other = absurd (omega arith)

-- tags are ordered as their numbers are
pub tags_numbered : (a b : List ℕ) → length a ≡ 3 → length b ≡ 3 → get_or a 1 0 < 256 → get_or a 2 0 < 256 → get_or b 1 0 < 256 → get_or b 2 0 < 256 → nat_cmp (number_of a) (number_of b) ≡ slice_cmp nat_cmp a b
tags_numbered a b long other second third b_second b_third =
    sym (tags_compared a b long other ∙ by_number (get_or a 0 0) (get_or a 1 0) (get_or a 2 0) (get_or b 0 0) (get_or b 1 0) (get_or b 2 0) second third b_second b_third)

-- two codes are compared octet by octet
abbrev pub by_four : List ℕ → List ℕ → Ordering
by_four a b =
    ordering_then (nat_cmp (get_or a 0 0) (get_or b 0 0))
    (ordering_then (nat_cmp (get_or a 1 0) (get_or b 1 0)) (ordering_then (nat_cmp (get_or a 2 0) (get_or b 2 0)) (nat_cmp (get_or a 3 0) (get_or b 3 0))))

other_four : (x y z w : ℕ) (b : List ℕ) → length b ≡ 4 → by_four (x ∷ y ∷ z ∷ w ∷ []) b ≡ slice_cmp nat_cmp (x ∷ y ∷ z ∷ w ∷ []) b
other_four x y z w [] long = absurd (omega arith)
other_four x y z w (a ∷ []) long = absurd (omega arith)
other_four x y z w (a ∷ b ∷ []) long = absurd (omega arith)
other_four x y z w (a ∷ b ∷ d ∷ []) long = absurd (omega arith)
other_four x y z w (a ∷ b ∷ d ∷ e ∷ []) long = ap (λ o. ordering_then (nat_cmp x a) (ordering_then (nat_cmp y b) (ordering_then (nat_cmp z d) o))) (then_equal (nat_cmp w e))
other_four x y z w (a ∷ b ∷ d ∷ e ∷ f ∷ more) long = absurd (omega arith)

four_compared : (a b : List ℕ) → length a ≡ 4 → length b ≡ 4 → slice_cmp nat_cmp a b ≡ by_four a b
four_compared [] b long other = absurd (omega arith)
four_compared (x ∷ []) b long other = absurd (omega arith)
four_compared (x ∷ y ∷ []) b long other = absurd (omega arith)
four_compared (x ∷ y ∷ z ∷ []) b long other = absurd (omega arith)
four_compared (x ∷ y ∷ z ∷ w ∷ []) b long other = sym (other_four x y z w b other)
four_compared (x ∷ y ∷ z ∷ w ∷ v ∷ more) b long other = absurd (omega arith)

-- four octets as one number
abbrev pub number_of_four : List ℕ → ℕ
number_of_four a = get_or a 0 0 * 16777216 + (get_or a 1 0 * 65536 + get_or a 2 0 * 256 + get_or a 3 0)

by_first : (x a n m : ℕ) → n < 16777216 → m < 16777216 → ordering_then (nat_cmp x a) (nat_cmp n m) ≡ nat_cmp (x * 16777216 + n) (a * 16777216 + m)
by_first x a n m n_small m_small =
    then_order x a (nat_cmp n m) (x * 16777216 + n) (a * 16777216 + m) (λ h. omega arith) (λ h. omega arith)
    (λ first. then_equal (nat_cmp n m)
    ∙ then_order n m Equal (x * 16777216 + n) (a * 16777216 + m) (λ h. omega arith) (λ h. omega arith) (λ second. nat_cmp_is (x * 16777216 + n) (a * 16777216 + m) Equal (omega arith)))

-- octets that are small
pub record AreSmall (a : List ℕ) : Type 0 where
  pub long : length a ≡ 4
  pub second : get_or a 1 0 < 256
  pub third : get_or a 2 0 < 256
  pub fourth : get_or a 3 0 < 256

-- codes are ordered as their numbers are
pub codes_numbered : (a b : List ℕ) → AreSmall a → AreSmall b → nat_cmp (number_of_four a) (number_of_four b) ≡ slice_cmp nat_cmp a b
codes_numbered a b one other =
    sym (four_compared a b one.long other.long
    ∙ ap (ordering_then (nat_cmp (get_or a 0 0) (get_or b 0 0)))
    (by_number (get_or a 1 0) (get_or a 2 0) (get_or a 3 0) (get_or b 1 0) (get_or b 2 0) (get_or b 3 0) one.third one.fourth other.third other.fourth)
    ∙ by_first (get_or a 0 0) (get_or b 0 0) (get_or a 1 0 * 65536 + get_or a 2 0 * 256 + get_or a 3 0) (get_or b 1 0 * 65536 + get_or b 2 0 * 256 + get_or b 3 0)
    (omega (arith, one.second, one.third, one.fourth)) (omega (arith, other.second, other.third, other.fourth)))

-- codes with one number are one
pub one_number : (a b : List ℕ) → AreSmall a → AreSmall b → number_of_four a ≡ number_of_four b → a ≡ b
one_number a b one other same = same-name a b (sym (codes_numbered a b one other) ∙ sym (nat_cmp_is (number_of_four a) (number_of_four b) Equal same))
