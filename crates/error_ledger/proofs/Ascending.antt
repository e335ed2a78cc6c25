-- Lists in ascending order of a key: such a list is fixed by its members and how often each occurs.
use Rattle.std.proofs.Common.{◌≡◌, ℕ, suc, ◌<◌, Bool, true, false, cond, List, [], ◌∷◌, length, get_or, map, sym, ap, ◌∙◌, refl, arith, true≢false, add-one}
use Rattle.std.specs.List.{filter, sum_by, Contains}
use Rattle.std.specs.Ordering.{is_lt, ordering_reverse}
use Rattle.std.specs.declared.cmp.Ordering.{Ordering}
use Rattle.std.specs.declared.cmp.Ordering.TheVariants.{Less, Equal, Greater}
use Rattle.std.specs.Cmp.{IsTotalOrder, IsStrictWeakOrder}
use Rattle.std.specs.List.Sorted.{IsPermutation, IsSortedBy, IsSortedByKey, IsStableBy, IsStableByKey, ties}
use Rattle.std.proofs.lemmas.Cmp.{tied_itself}
use Rattle.std.proofs.lemmas.List.Elements.{Contains-get_or}
use Rattle.std.proofs.lemmas.List.Sums.{sum_by-cons}
use Rattle.std.proofs.lemmas.List.Sorted.{sorted_far, ranks_by, Contains-permutation, IsPermutation-sym, sum_by-IsPermutation}

true_if_not_false : (b : Bool) → (b ≡ false → ⊥) → b ≡ true
true_if_not_false true deny = refl
true_if_not_false false deny = absurd (deny refl)

false_if_not_true : (b : Bool) → (b ≡ true → ⊥) → b ≡ false
false_if_not_true true deny = absurd (deny refl)
false_if_not_true false deny = refl

cons_is_no_nil : {X : Type 0} (x : X) (xs : List X) → x ∷ xs ≡ [] → ⊥
cons_is_no_nil x xs same = cc

same_head : {X : Type 0} (x y : X) (xs ys : List X) → x ∷ xs ≡ y ∷ ys → x ≡ y
same_head x y xs ys same = cc

same_tail : {X : Type 0} (x y : X) (xs ys : List X) → x ∷ xs ≡ y ∷ ys → xs ≡ ys
same_tail x y xs ys same = cc

same_rest : {X : Type 0} (b : Bool) (x : X) (xs ys : List X) → cond b (x ∷ xs) xs ≡ cond b (x ∷ ys) ys → xs ≡ ys
same_rest true x xs ys same = cc
same_rest false x xs ys same = same

-- no later member is below an earlier one, member by member
module _ {X : Type 0} (below : X → X → Bool) where
  abbrev pub NoneBelow : X → List X → Type 0
  NoneBelow x [] = Unit {0}
  NoneBelow x (y ∷ ys) = (below y x ≡ false) × NoneBelow x ys

  abbrev pub Rises : List X → Type 0
  Rises [] = Unit {0}
  Rises (x ∷ xs) = NoneBelow x xs × Rises xs

  none_below : (x : X) (xs : List X) → ((k : ℕ) → k < length xs → below (get_or xs k x) x ≡ false) → NoneBelow x xs
  none_below x [] far = tt
  none_below x (y ∷ ys) far = (far 0 (omega arith), none_below x ys (λ k within. far (suc k) (omega arith)))

  sorted_rest : (x : X) (xs : List X) → IsSortedBy below (x ∷ xs) → IsSortedBy below xs
  sorted_rest x xs sorted = λ k d low high. rw add-one (rw add-one at (sorted (suc k) d (omega arith) (omega arith)))

  rises : IsStrictWeakOrder below → (xs : List X) → IsSortedBy below xs → Rises xs
  rises order [] sorted = tt
  rises order (x ∷ xs) sorted =
      (none_below x xs (λ k within. sorted_far below order (x ∷ xs) sorted 0 (suc k) x (omega arith) (omega arith)), rises order xs (sorted_rest x xs sorted))

  module _ (order : IsStrictWeakOrder below) where
    not_below_itself : (x : X) → below x x ≡ false
    not_below_itself x = false_if_not_true (below x x) (λ so. true≢false (sym so ∙ order.one_way x x so))

    -- what is below y is below what isn't below y
    below_further : (x y z : X) → below x y ≡ true → below z y ≡ false → below x z ≡ true
    below_further x y z under not_under = true_if_not_false (below x z) (λ over. true≢false (sym under ∙ order.chain x z y over not_under))

    -- what is below the first member ties with none
    no_ties : (x y : X) (ys : List X) → below x y ≡ true → NoneBelow y ys → filter (ties below x) ys ≡ []
    no_ties x y [] under none = refl
    no_ties x y (z ∷ zs) under none = rw (below_further x y z under none.0) (no_ties x y zs under none.1)

    ties_itself : (x : X) → ties below x x ≡ true
    ties_itself x = rw (not_below_itself x) refl

    head_not_below : (x y : X) (xs ys : List X) → NoneBelow y ys → filter (ties below x) (y ∷ ys) ≡ filter (ties below x) (x ∷ xs) → below x y ≡ false
    head_not_below x y xs ys none same = false_if_not_true (below x y) (λ under.
        let empty : filter (ties below x) (y ∷ ys) ≡ [] = rw under (no_ties x y ys under none) in
        let full : filter (ties below x) (x ∷ xs) ≡ x ∷ filter (ties below x) xs = rw (ties_itself x) refl in
        cons_is_no_nil x (filter (ties below x) xs) (sym full ∙ sym same ∙ empty))

    heads_same : (x y : X) (xs ys : List X) → below x y ≡ false → below y x ≡ false → filter (ties below x) (y ∷ ys) ≡ filter (ties below x) (x ∷ xs) → x ≡ y
    heads_same x y xs ys not_under not_over same =
        let full : filter (ties below x) (x ∷ xs) ≡ x ∷ filter (ties below x) xs = rw (ties_itself x) refl in
        let tied : filter (ties below x) (y ∷ ys) ≡ y ∷ filter (ties below x) ys = rw (not_under, not_over) refl in
        same_head x y (filter (ties below x) xs) (filter (ties below x) ys) (sym full ∙ sym same ∙ tied)

    rising-unique : (xs ys : List X) → Rises xs → Rises ys → ((z : X) → filter (ties below z) ys ≡ filter (ties below z) xs) → xs ≡ ys
    rising-unique [] [] up_xs up_ys same = refl
    rising-unique [] (y ∷ ys) up_xs up_ys same =
        let full : filter (ties below y) (y ∷ ys) ≡ y ∷ filter (ties below y) ys = rw (ties_itself y) refl in
        absurd (cons_is_no_nil y (filter (ties below y) ys) (sym full ∙ same y))
    rising-unique (x ∷ xs) [] up_xs up_ys same =
        let full : filter (ties below x) (x ∷ xs) ≡ x ∷ filter (ties below x) xs = rw (ties_itself x) refl in
        absurd (cons_is_no_nil x (filter (ties below x) xs) (sym full ∙ sym (same x)))
    rising-unique (x ∷ xs) (y ∷ ys) up_xs up_ys same =
        let not_under : below x y ≡ false = head_not_below x y xs ys up_ys.0 (same x) in
        let not_over : below y x ≡ false = head_not_below y x ys xs up_xs.0 (sym (same y)) in
        let head : x ≡ y = heads_same x y xs ys not_under not_over (same x) in
        let rest : xs ≡ ys = rising-unique xs ys up_xs.1 up_ys.1 (λ z.
        let same_here = ap (λ (w : X). filter (ties below z) (w ∷ ys)) head ∙ same z in
        same_rest (ties below z x) x (filter (ties below z) ys) (filter (ties below z) xs) same_here) in
        λ i. head i ∷ rest i

-- two ascending lists in which the members that tie with each x are the same, in the same order, are one list
pub sorted_by-stable : {X : Type 0} (below : X → X → Bool) → IsStrictWeakOrder below → (xs ys : List X) → IsSortedBy below xs → IsSortedBy below ys → IsStableBy below xs ys → xs ≡ ys
sorted_by-stable below order xs ys up_xs up_ys stable =
    rising-unique below order xs ys (rises below order xs up_xs) (rises below order ys up_ys) stable

pub sorted_by_key-stable : {X K : Type 0} (key : X → K) {cmp : K → K → Ordering} → IsTotalOrder cmp → (xs ys : List X) → IsSortedByKey key cmp xs → IsSortedByKey key cmp ys → IsStableByKey key cmp xs ys → xs ≡ ys
sorted_by_key-stable key {cmp} order xs ys up_xs up_ys stable =
    sorted_by-stable (λ x y. is_lt (cmp (key x) (key y))) (ranks_by order key) xs ys up_xs up_ys stable

-- a list has one ascending order that keeps the order of members of one key
pub stable_order-unique : {X K : Type 0} (key : X → K) {cmp : K → K → Ordering} → IsTotalOrder cmp → (xs ys zs : List X) → IsSortedByKey key cmp ys → IsStableByKey key cmp xs ys → IsSortedByKey key cmp zs → IsStableByKey key cmp xs zs → ys ≡ zs
stable_order-unique key {cmp} order xs ys zs up_ys stable_ys up_zs stable_zs =
    sorted_by_key-stable key order ys zs up_ys up_zs (λ x. stable_zs x ∙ sym (stable_ys x))

neither_less : (o p : Ordering) → p ≡ ordering_reverse o → is_lt o ≡ false → is_lt p ≡ false → p ≡ Equal
neither_less Less p turned not_o not_p = absurd (true≢false not_o)
neither_less Equal p turned not_o not_p = turned
neither_less Greater p turned not_o not_p = absurd (true≢false (sym (ap is_lt turned) ∙ not_p))

-- an order in which no two keys tie
module _ {X K : Type 0} (key : X → K) {cmp : K → K → Ordering} (order : IsTotalOrder cmp) (apart : (a b : K) → cmp a b ≡ Equal → a ≡ b) where
  abbrev below_by : X → X → Bool
  below_by x y = is_lt (cmp (key x) (key y))

  -- 1 for a key below k
  abbrev under : K → K → ℕ
  under k l = cond (is_lt (cmp l k)) 1 0

  none_counted : (x : X) (ys : List X) → NoneBelow below_by x ys → sum_by (λ y. under (key x) (key y)) ys ≡ 0
  none_counted x [] none = refl
  none_counted x (y ∷ ys) none = sum_by-cons (λ w. under (key x) (key w)) y ys ∙ rw (none.0, none_counted x ys none.1) refl

  -- where none of ys is below y, and the keys of x ∷ xs and y ∷ ys occur alike, x isn't below y
  not_below : (x y : X) (xs ys : List X) → NoneBelow below_by y ys → sum_by (λ w. under (key y) (key w)) (y ∷ ys) ≡ sum_by (λ w. under (key y) (key w)) (x ∷ xs) → below_by x y ≡ false
  not_below x y xs ys none same = false_if_not_true (below_by x y) (λ so.
      let itself : under (key y) (key y) ≡ 0 = rw (tied_itself order (key y)) refl in
      let one : under (key y) (key x) ≡ 1 = rw so refl in
      omega (arith, none_counted y ys none, sum_by-cons (λ w. under (key y) (key w)) y ys, sum_by-cons (λ w. under (key y) (key w)) x xs, same))

  rising_keys : (xs ys : List X) → Rises below_by xs → Rises below_by ys → ((f : K → ℕ) → sum_by (λ x. f (key x)) ys ≡ sum_by (λ x. f (key x)) xs) → map key xs ≡ map key ys
  rising_keys [] [] up_xs up_ys same = refl
  rising_keys [] (y ∷ ys) up_xs up_ys same = absurd (omega (arith, same (λ _. 1), sum_by-cons (λ (_ : X). 1) y ys))
  rising_keys (x ∷ xs) [] up_xs up_ys same = absurd (omega (arith, same (λ _. 1), sum_by-cons (λ (_ : X). 1) x xs))
  rising_keys (x ∷ xs) (y ∷ ys) up_xs up_ys same =
      let not_under : below_by x y ≡ false = not_below x y xs ys up_ys.0 (same (under (key y))) in
      let not_over : below_by y x ≡ false = not_below y x ys xs up_xs.0 (sym (same (under (key x)))) in
      let head : key x ≡ key y = apart (key x) (key y) (neither_less (cmp (key y) (key x)) (cmp (key x) (key y)) (order.antisymm (key x) (key y)) not_over not_under) in
      let rest : map key xs ≡ map key ys = rising_keys xs ys up_xs.1 up_ys.1 (λ f. omega (arith, same f, ap f head, sum_by-cons (λ w. f (key w)) x xs, sum_by-cons (λ w. f (key w)) y ys)) in
      λ i. head i ∷ rest i

  -- two ascending orders of the same members have the same keys, place by place
  pub sorted_keys-unique : (xs ys : List X) → IsSortedByKey key cmp xs → IsSortedByKey key cmp ys → IsPermutation xs ys → map key xs ≡ map key ys
  sorted_keys-unique xs ys up_xs up_ys same =
      rising_keys xs ys (rises below_by (ranks_by order key) xs up_xs) (rises below_by (ranks_by order key) ys up_ys) (λ f. sum_by-IsPermutation (λ x. f (key x)) xs ys same)

  same_members : (all xs ys : List X) → ((x y : X) → Contains all x → Contains all y → key x ≡ key y → x ≡ y)
      → ((k : ℕ) (d : X) → k < length xs → Contains all (get_or xs k d)) → ((k : ℕ) (d : X) → k < length ys → Contains all (get_or ys k d)) → map key xs ≡ map key ys → xs ≡ ys
  same_members all [] [] one among_xs among_ys keys = refl
  same_members all [] (y ∷ ys) one among_xs among_ys keys = absurd (cons_is_no_nil (key y) (map key ys) (sym keys))
  same_members all (x ∷ xs) [] one among_xs among_ys keys = absurd (cons_is_no_nil (key x) (map key xs) keys)
  same_members all (x ∷ xs) (y ∷ ys) one among_xs among_ys keys =
      let head : x ≡ y = one x y (among_xs 0 x (omega arith)) (among_ys 0 y (omega arith)) (same_head (key x) (key y) (map key xs) (map key ys) keys) in
      let rest : xs ≡ ys = same_members all xs ys one (λ k d within. among_xs (suc k) d (omega arith)) (λ k d within. among_ys (suc k) d (omega arith)) (same_tail (key x) (key y) (map key xs) (map key ys) keys) in
      λ i. head i ∷ rest i

  -- two ascending orders of the same members are one list, where members of one key are equal
  pub sorted-unique : (xs ys : List X) → ((x y : X) → Contains xs x → Contains xs y → key x ≡ key y → x ≡ y) → IsSortedByKey key cmp xs → IsSortedByKey key cmp ys → IsPermutation xs ys → xs ≡ ys
  sorted-unique xs ys one up_xs up_ys same =
      same_members xs xs ys one (Contains-get_or xs) (λ k d within. Contains-permutation ys xs (get_or ys k d) (IsPermutation-sym xs ys same) (Contains-get_or ys k d within)) (sorted_keys-unique xs ys up_xs up_ys same)
