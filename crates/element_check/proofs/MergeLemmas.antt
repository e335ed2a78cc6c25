-- Two lists of local errors put together.
use Rattle.std.proofs.Common.{◌≡◌, ℕ, zero, suc, ◌+◌, ◌-◌, ◌<◌, ◌≤◌, ◌⊎◌, inl, inr, Bool, true, false, ◌||◌, cond, List, [], ◌∷◌, ◌++◌, length, take, drop, get_or, map, filter, refl, sym, ◌∙◌, ap, arith, append_assoc, length-append, length-drop, true≢false}
use Rattle.std.proofs.Math.ListN.{drop_of_length-le}
use Rattle.std.proofs.Math.Seq.{take-add, take-length}
use Rattle.std.proofs.lemmas.List.{append-nil, drop-drop, drop_more, get_or-drop, take-append-drop}
use Rattle.std.specs.List.{AllByRecursion, AllWithin}
use Rattle.std.specs.List.Sorted.{IsPartitionedBy, IsPartitionPoint, IsStrictlySortedBy}
use Rattle.std.specs.Ordering.{is_lt, ordering_reverse}
use Rattle.std.specs.declared.cmp.Ordering.{Ordering}
use Rattle.std.specs.declared.cmp.Ordering.TheVariants.{Less, Equal, Greater}
use Rattle.std.proofs.lemmas.Cmp.{nat_list_cmp_total}
use Rattle.error_ledger.specs.Order.{compare_keys}
use Rattle.element_check.specs.Ascending.{AreAscending, order_key_of}
use Rattle.element_check.specs.Merging.{is_before, merged, put_among}
use Rattle.element_check.specs.declared.error.LocalError.{LocalError}

abbrev order_of : LocalError → LocalError → Ordering
order_of x y = compare_keys (order_key_of x) (order_key_of y)

reversed-less : (o : Ordering) → o ≡ Less → is_lt (ordering_reverse o) ≡ false
reversed-less o h = ap (λ (p : Ordering). is_lt (ordering_reverse p)) h

-- the later of two isn't before the earlier
not-after : (x y : LocalError) → order_of x y ≡ Less → is_before y x ≡ false
not-after x y h = ap is_lt (nat_list_cmp_total.antisymm (order_key_of y) (order_key_of x)) ∙ reversed-less (order_of x y) h

reversed-self : (o : Ordering) → o ≡ ordering_reverse o → is_lt o ≡ false
reversed-self Less h = sym (ap is_lt (sym h))
reversed-self Equal h = refl
reversed-self Greater h = refl

-- no error is before itself
not-self : (x : LocalError) → is_before x x ≡ false
not-self x = reversed-self (order_of x x) (nat_list_cmp_total.antisymm (order_key_of x) (order_key_of x))

-- all of these are after an error
abbrev pub AreAfter : LocalError → List LocalError → Type 0
AreAfter x ys = AllByRecursion (λ k. compare_keys (order_key_of x) k ≡ Less) (map order_key_of ys)

pub ascending-after : (x : LocalError) (xs : List LocalError) → AreAscending (x ∷ xs) → AreAfter x xs
unfolding IsStrictlySortedBy
ascending-after x xs up = up.0

pub ascending-more : (x : LocalError) (xs : List LocalError) → AreAscending (x ∷ xs) → AreAscending xs
unfolding IsStrictlySortedBy
ascending-more x xs up = up.1

pub ascending-put : (x : LocalError) (xs : List LocalError) → AreAfter x xs → AreAscending xs → AreAscending (x ∷ xs)
unfolding IsStrictlySortedBy
ascending-put x xs after up = (after, up)

pub ascending-none : AreAscending []
unfolding IsStrictlySortedBy
ascending-none = tt

after-put : (b : Bool) (x y : LocalError) (ys : List LocalError) → order_of x y ≡ Less → AreAfter x ys → AreAfter x (cond b (y ∷ ys) ys)
after-put true x y ys h k = (h, k)
after-put false x y ys h k = k

-- those that pass a test are after it too
pub after-filter : (test : LocalError → Bool) (x : LocalError) (ys : List LocalError) → AreAfter x ys → AreAfter x (filter test ys)
after-filter test x [] h = tt
after-filter test x (y ∷ ys) h = after-put (test y) x y (filter test ys) h.0 (after-filter test x ys h.1)

ascending-kept : (b : Bool) (x : LocalError) (xs : List LocalError) → AreAfter x xs → AreAscending xs → AreAscending (cond b (x ∷ xs) xs)
ascending-kept true x xs after up = ascending-put x xs after up
ascending-kept false x xs after up = up

-- the errors of an ascending list that pass a test ascend
pub ascending-filter : (test : LocalError → Bool) (xs : List LocalError) → AreAscending xs → AreAscending (filter test xs)
ascending-filter test [] up = ascending-none
ascending-filter test (x ∷ xs) up =
    ascending-kept (test x) x (filter test xs) (after-filter test x xs (ascending-after x xs up))
    (ascending-filter test xs (ascending-more x xs up))

put-first-by : (b c : Bool) (x y : LocalError) (rest : List LocalError → List LocalError) (ys : List LocalError) → b ≡ false → c ≡ true → cond b (y ∷ put_among x rest ys) (x ∷ rest (cond c (y ∷ ys) ys)) ≡ x ∷ rest (y ∷ ys)
put-first-by b c x y rest ys not_before before =
    ap (λ (b : Bool). cond b (y ∷ put_among x rest ys) (x ∷ rest (cond c (y ∷ ys) ys))) not_before
    ∙ ap (λ (c : Bool). x ∷ rest (cond c (y ∷ ys) ys)) before

-- an error before all of the others is put first
put-first : (x : LocalError) (rest : List LocalError → List LocalError) (ys : List LocalError) → AreAfter x ys → put_among x rest ys ≡ x ∷ rest ys
put-first x rest [] after = refl
put-first x rest (y ∷ ys) after =
    put-first-by (is_before y x) (is_before x y) x y rest ys (not-after x y after.0) (ap is_lt after.0)

-- an error that is in both lists is put once
put-same : (x : LocalError) (rest : List LocalError → List LocalError) (ys : List LocalError) → put_among x rest (x ∷ ys) ≡ x ∷ rest ys
put-same x rest ys =
    ap (λ (b : Bool). cond b (x ∷ put_among x rest ys) (x ∷ rest (cond b (x ∷ ys) ys))) (not-self x)

-- a fresh error that is before all known ones is put first
pub merged-fresh_first : (y : LocalError) (xs ys : List LocalError) → AreAfter y xs → merged xs (y ∷ ys) ≡ y ∷ merged xs ys
unfolding merged
merged-fresh_first y [] ys after = refl
merged-fresh_first y (x ∷ xs) ys after =
    ap (λ (b : Bool). cond b (y ∷ put_among x (λ zs. merged xs zs) ys) (x ∷ merged xs (cond (is_before x y) (y ∷ ys) ys))) (ap is_lt after.0)

-- a known error that is before all fresh ones is put first
pub merged-known_first : (x : LocalError) (xs ys : List LocalError) → AreAfter x ys → merged (x ∷ xs) ys ≡ x ∷ merged xs ys
unfolding merged
merged-known_first x xs ys after = put-first x (λ zs. merged xs zs) ys after

pub merged-same_first : (x : LocalError) (xs ys : List LocalError) → merged (x ∷ xs) (x ∷ ys) ≡ x ∷ merged xs ys
unfolding merged
merged-same_first x xs ys = put-same x (λ zs. merged xs zs) ys

merged-cases : (a b : Bool) (x : LocalError) (xs ys zs : List LocalError) → AreAfter x xs → AreAfter x ys → merged xs ys ≡ zs → merged (cond a (x ∷ xs) xs) (cond b (x ∷ ys) ys) ≡ cond (a || b) (x ∷ zs) zs
merged-cases true true x xs ys zs known fresh rest = merged-same_first x xs ys ∙ ap (λ (es : List LocalError). x ∷ es) rest
merged-cases true false x xs ys zs known fresh rest = merged-known_first x xs ys fresh ∙ ap (λ (es : List LocalError). x ∷ es) rest
merged-cases false true x xs ys zs known fresh rest = merged-fresh_first x xs ys known ∙ ap (λ (es : List LocalError). x ∷ es) rest
merged-cases false false x xs ys zs known fresh rest = rest

-- the errors of an ascending list that pass one test, and those that pass another, are those that pass one of both
pub merged-filters : (one other : LocalError → Bool) (all : List LocalError) → AreAscending all → merged (filter one all) (filter other all) ≡ filter (λ e. one e || other e) all
unfolding merged
merged-filters one other [] up = refl
merged-filters one other (x ∷ xs) up =
    merged-cases (one x) (other x) x (filter one xs) (filter other xs) (filter (λ e. one e || other e) xs)
    (after-filter one x xs (ascending-after x xs up)) (after-filter other x xs (ascending-after x xs up))
    (merged-filters one other xs (ascending-more x xs up))

is-less : (o : Ordering) → is_lt o ≡ true → o ≡ Less
is-less Less h = refl
is-less Equal h = absurd (true≢false (sym h))
is-less Greater h = absurd (true≢false (sym h))

after-at : (x : LocalError) (ys : List LocalError) (k : ℕ) (d : LocalError) → AreAfter x ys → k < length ys → order_of x (get_or ys k d) ≡ Less
after-at x [] k d after within = absurd (omega arith)
after-at x (y ∷ ys) zero d after within = after.0
after-at x (y ∷ ys) (suc k) d after within = after-at x ys k d after.1 (omega arith)

before-before : (x y z : LocalError) → order_of x y ≡ Less → is_before y z ≡ true → is_before x z ≡ true
before-before x y z first second =
    ap is_lt (nat_list_cmp_total.trans (order_key_of x) (order_key_of y) (order_key_of z) first (is-less (order_of y z) second))

-- in an ascending list, those that are before an error come first
pub ascending-partitioned : (y : LocalError) (xs : List LocalError) → AreAscending xs → IsPartitionedBy (λ x. is_before x y) xs
ascending-partitioned y [] up i j d below within here = absurd (omega arith)
ascending-partitioned y (x ∷ xs) up zero zero d below within here = here
ascending-partitioned y (x ∷ xs) up zero (suc j) d below within here =
    before-before x (get_or xs j d) y (after-at x xs j d (ascending-after x xs up) (omega arith)) here
ascending-partitioned y (x ∷ xs) up (suc i) zero d below within here = absurd (omega arith)
ascending-partitioned y (x ∷ xs) up (suc i) (suc j) d below within here =
    ascending-partitioned y xs (ascending-more x xs up) i j d (omega arith) (omega arith) here

-- an ascending list ascends from any place on
pub ascending-drop : (n : ℕ) (xs : List LocalError) → AreAscending xs → AreAscending (drop n xs)
ascending-drop zero xs up = up
ascending-drop (suc n) [] up = up
ascending-drop (suc n) (x ∷ xs) up = ascending-drop n xs (ascending-more x xs up)

abbrev pub IsPoint : LocalError → List LocalError → ℕ → Type 0
IsPoint y = IsPartitionPoint (λ x. is_before x y ≡ true) (λ x. is_before x y ≡ false)

known-before : (x y : LocalError) (xs ys : List LocalError) → is_before x y ≡ true → merged (x ∷ xs) (y ∷ ys) ≡ x ∷ merged xs (y ∷ ys)
unfolding merged
known-before x y xs ys before =
    put-first-by (is_before y x) (is_before x y) x y (λ zs. merged xs zs) ys (not-after x y (is-less (order_of x y) before)) before

-- the known errors that are before a fresh one come first
passed-before : (y : LocalError) (ys xs : List LocalError) (k : ℕ) → k ≤ length xs → AllWithin (λ x. is_before x y ≡ true) xs 0 k → merged xs (y ∷ ys) ≡ take k xs ++ merged (drop k xs) (y ∷ ys)
passed-before y ys xs zero within before = refl
passed-before y ys [] (suc k) within before = absurd (omega arith)
passed-before y ys (x ∷ xs) (suc k) within before =
    known-before x y xs ys (before 0 x (omega arith) (omega arith))
    ∙ ap (λ (es : List LocalError). x ∷ es) (passed-before y ys xs k (omega arith) (λ i d low high. before (suc i) d (omega arith) (omega arith)))

-- a known error that is neither before a fresh one nor after it is that error
known-same : (x y : LocalError) (xs ys : List LocalError) → is_before y x ≡ false → is_before x y ≡ false → merged (x ∷ xs) (y ∷ ys) ≡ x ∷ merged xs ys
unfolding merged
known-same x y xs ys not_before not_behind =
    ap (λ (b : Bool). cond b (y ∷ put_among x (λ zs. merged xs zs) ys) (x ∷ merged xs (cond (is_before x y) (y ∷ ys) ys))) not_before
    ∙ ap (λ (b : Bool). x ∷ merged xs (cond b (y ∷ ys) ys)) not_behind

fresh-before : (x y : LocalError) (xs ys : List LocalError) → is_before y x ≡ true → merged (x ∷ xs) (y ∷ ys) ≡ y ∷ merged (x ∷ xs) ys
unfolding merged
fresh-before x y xs ys before =
    ap (λ (b : Bool). cond b (y ∷ put_among x (λ zs. merged xs zs) ys) (x ∷ merged xs (cond (is_before x y) (y ∷ ys) ys))) before

-- where nothing is fresh, nothing changes
pub merged-no_fresh : (xs : List LocalError) → merged xs [] ≡ xs
unfolding merged
merged-no_fresh [] = refl
merged-no_fresh (x ∷ xs) = ap (λ (es : List LocalError). x ∷ es) (merged-no_fresh xs)

-- where one of the lists is at its end, what is left of the other comes last
pub merged-ends : (xs ys : List LocalError) (i j : ℕ) → i ≤ length xs → j ≤ length ys → (i ≡ length xs) ⊎ (j ≡ length ys) → merged (drop i xs) (drop j ys) ≡ drop i xs ++ drop j ys
unfolding merged
merged-ends xs ys i j ok_i ok_j (inl end) =
    let none : drop i xs ≡ [] = drop_of_length-le xs (omega arith) in
    ap (λ (es : List LocalError). merged es (drop j ys)) none ∙ sym (ap (λ (es : List LocalError). es ++ drop j ys) none)
merged-ends xs ys i j ok_i ok_j (inr end) =
    let none : drop j ys ≡ [] = drop_of_length-le ys (omega arith) in
    ap (λ (es : List LocalError). merged (drop i xs) es) none ∙ merged-no_fresh (drop i xs) ∙ sym (append-nil (drop i xs)) ∙ sym (ap (λ (es : List LocalError). drop i xs ++ es) none)

-- the known errors from a place on, as a slice has them
pub rest-slice : (xs : List LocalError) (at : ℕ) → take (length xs - at) (drop at xs) ≡ drop at xs
rest-slice xs at = ap (λ (n : ℕ). take n (drop at xs)) (sym (length-drop at xs)) ∙ take-length (drop at xs)

-- the walk through the fresh errors, each of which is looked up among the known ones that are left
module _ (known fresh : List LocalError) (at passed : ℕ) (y : LocalError) (within : at ≤ length known) (here : drop passed fresh ≡ y ∷ drop (passed + 1) fresh) (reached : merged known fresh ≡ take at known ++ merged (drop at known) (drop passed fresh)) (k : ℕ) (found : IsPoint y (drop at known) k) (in_rest : k ≤ length (drop at known)) where
  pub passed-known : merged known fresh ≡ take (at + k) known ++ merged (drop (at + k) known) (drop passed fresh)
  passed-known =
      reached
      ∙ ap (λ (es : List LocalError). take at known ++ merged (drop at known) es) here
      ∙ ap (λ (es : List LocalError). take at known ++ es) (passed-before y (drop (passed + 1) fresh) (drop at known) k in_rest found.0)
      ∙ sym (append_assoc (take at known) (take k (drop at known)) (merged (drop k (drop at known)) (y ∷ drop (passed + 1) fresh)))
      ∙ ap (λ (es : List LocalError). es ++ merged (drop k (drop at known)) (y ∷ drop (passed + 1) fresh)) (sym (take-add at k known))
      ∙ ap (λ (es : List LocalError). take (at + k) known ++ merged es (y ∷ drop (passed + 1) fresh)) (drop-drop k at known)
      ∙ ap (λ (es : List LocalError). take (at + k) known ++ merged (drop (at + k) known) es) (sym here)

  -- and this one is known
  pub passed-same : (d : LocalError) → at + k < length known → is_before y (get_or known (at + k) d) ≡ false → merged known fresh ≡ take (at + k + 1) known ++ merged (drop (at + k + 1) known) (drop (passed + 1) fresh)
  passed-same d more not_before =
      passed-known
      ∙ ap (λ (es : List LocalError). take (at + k) known ++ merged es (drop passed fresh)) first
      ∙ ap (λ (es : List LocalError). take (at + k) known ++ merged (x ∷ drop (at + k + 1) known) es) here
      ∙ ap (λ (es : List LocalError). take (at + k) known ++ es) (known-same x y (drop (at + k + 1) known) (drop (passed + 1) fresh) not_before not_behind)
      ∙ sym (append_assoc (take (at + k) known) (x ∷ []) (merged (drop (at + k + 1) known) (drop (passed + 1) fresh)))
      ∙ ap (λ (es : List LocalError). es ++ merged (drop (at + k + 1) known) (drop (passed + 1) fresh)) (taken ∙ sym (take-add (at + k) 1 known))
    where
      x : LocalError
      x = get_or known (at + k) d

      first : drop (at + k) known ≡ x ∷ drop (at + k + 1) known
      first = drop_more known (at + k) d more

      not_behind : is_before x y ≡ false
      not_behind =
          ap (λ (e : LocalError). is_before e y) (sym (get_or-drop at known k d))
          ∙ found.1 k d (omega arith) (omega (arith, length-drop at known))

      taken : take (at + k) known ++ x ∷ [] ≡ take (at + k) known ++ take 1 (drop (at + k) known)
      taken = sym (ap (λ (es : List LocalError). take (at + k) known ++ take 1 es) first)

-- one more is put at the end: what is left comes after it
pub put-next : (old all xs ys errors next : List LocalError) (e : LocalError) (rest : List LocalError) → errors ++ merged xs ys ≡ old ++ all → merged xs ys ≡ e ∷ rest → next ≡ errors ++ e ∷ [] → next ++ rest ≡ old ++ all
put-next old all xs ys errors next e rest so step is =
    ap (λ (es : List LocalError). es ++ rest) is
    ∙ append_assoc errors (e ∷ []) rest
    ∙ ap (λ (es : List LocalError). errors ++ es) (sym step)
    ∙ so

-- there was no room for one more
pub put-full : (old all xs ys errors : List LocalError) (e : LocalError) (rest : List LocalError) → errors ++ merged xs ys ≡ old ++ all → merged xs ys ≡ e ∷ rest → 4 < length errors + 1 → 4 < length old + length all
put-full old all xs ys errors e rest so step full =
    let lengths : length errors + length (e ∷ rest) ≡ length old + length all = sym (length-append errors (e ∷ rest)) ∙ ap (λ (es : List LocalError). length (errors ++ es)) (sym step) ∙ ap length so ∙ length-append old all in
    let one : length (e ∷ rest) ≡ length rest + 1 = omega arith in
    omega arith

known-next-by : (x y : LocalError) (xs ys : List LocalError) → is_before y x ≡ false → merged (x ∷ xs) (y ∷ ys) ≡ x ∷ merged xs (cond (is_before x y) (y ∷ ys) ys)
unfolding merged
known-next-by x y xs ys not_before =
    ap (λ (b : Bool). cond b (y ∷ put_among x (λ zs. merged xs zs) ys) (x ∷ merged xs (cond (is_before x y) (y ∷ ys) ys))) not_before

-- a step of merging: the known error or the fresh one that is next
module _ (known fresh : List LocalError) (i j : ℕ) (d : LocalError) (in_known : i < length known) (in_fresh : j < length fresh) where
  x : LocalError
  x = get_or known i d

  y : LocalError
  y = get_or fresh j d

  both : merged (drop i known) (drop j fresh) ≡ merged (x ∷ drop (i + 1) known) (y ∷ drop (j + 1) fresh)
  unfolding x y
  both =
      ap (λ (es : List LocalError). merged es (drop j fresh)) (drop_more known i d in_known)
      ∙ ap (λ (es : List LocalError). merged (x ∷ drop (i + 1) known) es) (drop_more fresh j d in_fresh)

  pub fresh-next : is_before (get_or fresh j d) (get_or known i d) ≡ true → merged (drop i known) (drop j fresh) ≡ get_or fresh j d ∷ merged (drop i known) (drop (j + 1) fresh)
  unfolding x y
  fresh-next before =
      both ∙ fresh-before x y (drop (i + 1) known) (drop (j + 1) fresh) before
      ∙ ap (λ (es : List LocalError). y ∷ merged es (drop (j + 1) fresh)) (sym (drop_more known i d in_known))

  pub known-next : is_before (get_or fresh j d) (get_or known i d) ≡ false → merged (drop i known) (drop j fresh) ≡ get_or known i d ∷ merged (drop (i + 1) known) (cond (is_before (get_or known i d) (get_or fresh j d)) (get_or fresh j d ∷ drop (j + 1) fresh) (drop (j + 1) fresh))
  unfolding x y
  known-next not_before = both ∙ known-next-by x y (drop (i + 1) known) (drop (j + 1) fresh) not_before

  -- the fresh one stays, if the known one is before it
  pub known-next-alone : is_before (get_or fresh j d) (get_or known i d) ≡ false → is_before (get_or known i d) (get_or fresh j d) ≡ true → (next : ℕ) → next ≡ j → merged (drop i known) (drop j fresh) ≡ get_or known i d ∷ merged (drop (i + 1) known) (drop next fresh)
  unfolding x y
  known-next-alone not_before before next is =
      known-next not_before
      ∙ ap (λ (b : Bool). x ∷ merged (drop (i + 1) known) (cond b (y ∷ drop (j + 1) fresh) (drop (j + 1) fresh))) before
      ∙ ap (λ (es : List LocalError). x ∷ merged (drop (i + 1) known) es) (sym (drop_more fresh j d in_fresh) ∙ ap (λ (n : ℕ). drop n fresh) (sym is))

  -- and else it is the same, and goes too
  pub known-next-same : is_before (get_or fresh j d) (get_or known i d) ≡ false → is_before (get_or known i d) (get_or fresh j d) ≡ false → (next : ℕ) → next ≡ j + 1 → merged (drop i known) (drop j fresh) ≡ get_or known i d ∷ merged (drop (i + 1) known) (drop next fresh)
  unfolding x y
  known-next-same not_before not_behind next is =
      known-next not_before
      ∙ ap (λ (b : Bool). x ∷ merged (drop (i + 1) known) (cond b (y ∷ drop (j + 1) fresh) (drop (j + 1) fresh))) not_behind
      ∙ ap (λ (n : ℕ). x ∷ merged (drop (i + 1) known) (drop n fresh)) (sym is)

-- what is left of both lists, where one is at its end
module _ (known fresh old all errors : List LocalError) (i j : ℕ) (so : errors ++ merged (drop i known) (drop j fresh) ≡ old ++ all) (end : merged (drop i known) (drop j fresh) ≡ drop i known ++ drop j fresh) where
  in_three : (errors ++ drop i known) ++ drop j fresh ≡ old ++ all
  in_three = append_assoc errors (drop i known) (drop j fresh) ∙ ap (λ (es : List LocalError). errors ++ es) (sym end) ∙ so

  pub ends-put : (now next : List LocalError) → now ≡ errors ++ take (length known - i) (drop i known) → next ≡ now ++ take (length fresh - j) (drop j fresh) → next ≡ old ++ all
  ends-put now next now_is next_is =
      next_is
      ∙ ap (λ (es : List LocalError). now ++ es) (rest-slice fresh j)
      ∙ ap (λ (es : List LocalError). es ++ drop j fresh) (now_is ∙ ap (λ (es : List LocalError). errors ++ es) (rest-slice known i))
      ∙ in_three

  lengths : length errors + length (drop i known) + length (drop j fresh) ≡ length old + length all
  lengths =
      ap (λ (n : ℕ). n + length (drop j fresh)) (sym (length-append errors (drop i known)))
      ∙ sym (length-append (errors ++ drop i known) (drop j fresh)) ∙ ap length in_three ∙ length-append old all

  pub first-ends-full : 4 < length errors + length (take (length known - i) (drop i known)) → 4 < length old + length all
  first-ends-full full =
      let known_is : length (take (length known - i) (drop i known)) ≡ length (drop i known) = ap length (rest-slice known i) in
      let all_is : length errors + length (drop i known) + length (drop j fresh) ≡ length old + length all = lengths in
      omega arith

  pub second-ends-full : (now : List LocalError) → now ≡ errors ++ take (length known - i) (drop i known) → 4 < length now + length (take (length fresh - j) (drop j fresh)) → 4 < length old + length all
  second-ends-full now now_is full =
      let known_is : length (take (length known - i) (drop i known)) ≡ length (drop i known) = ap length (rest-slice known i) in
      let fresh_is : length (take (length fresh - j) (drop j fresh)) ≡ length (drop j fresh) = ap length (rest-slice fresh j) in
      let now_long : length now ≡ length errors + length (take (length known - i) (drop i known)) = ap length now_is ∙ length-append errors (take (length known - i) (drop i known)) in
      let all_is : length errors + length (drop i known) + length (drop j fresh) ≡ length old + length all = lengths in
      omega arith

-- where all fresh errors are known, nothing changes
pub all-known : (known fresh : List LocalError) (at passed : ℕ) → merged known fresh ≡ take at known ++ merged (drop at known) (drop passed fresh) → passed ≡ length fresh → known ≡ merged known fresh
all-known known fresh at passed reached end =
    sym (take-append-drop at known)
    ∙ ap (λ (es : List LocalError). take at known ++ es) (sym (merged-no_fresh (drop at known)))
    ∙ ap (λ (es : List LocalError). take at known ++ merged (drop at known) es) (sym (drop_of_length-le fresh (omega arith)))
    ∙ sym reached

either-longer : (n : ℕ) (x y : LocalError) (b : Bool) (us vs : List LocalError) → n < length us → n ≤ length vs → n < length (cond b (y ∷ us) (x ∷ vs))
either-longer n x y true us vs h k = omega arith
either-longer n x y false us vs h k = omega arith

put-longer : (n : ℕ) (x : LocalError) (rest : List LocalError → List LocalError) (ys : List LocalError) → ((zs : List LocalError) → n ≤ length (rest zs)) → n < length (put_among x rest ys)
put-longer n x rest [] longer = omega (arith, longer [])
put-longer n x rest (y ∷ ys) longer =
    either-longer n x y (is_before y x) (put_among x rest ys) (rest (cond (is_before x y) (y ∷ ys) ys)) (put-longer n x rest ys longer) (longer (cond (is_before x y) (y ∷ ys) ys))

-- no known error is lost
pub merged-longer : (xs ys : List LocalError) → length xs ≤ length (merged xs ys)
unfolding merged
merged-longer [] ys = omega arith
merged-longer (x ∷ xs) ys = omega (arith, put-longer (length xs) x (λ zs. merged xs zs) ys (λ zs. merged-longer xs zs))

fresh-longer : (x y : LocalError) (b c : Bool) (ys us : List LocalError) (rest : List LocalError → List LocalError) → length ys ≤ length us → ((zs : List LocalError) → length zs ≤ length (rest zs)) → length (y ∷ ys) ≤ length (cond b (y ∷ us) (x ∷ rest (cond c (y ∷ ys) ys)))
fresh-longer x y true c ys us rest h longer = omega arith
fresh-longer x y false true ys us rest h longer = let more = longer (y ∷ ys) in omega arith
fresh-longer x y false false ys us rest h longer = let more = longer ys in omega arith

put-longer_fresh : (x : LocalError) (rest : List LocalError → List LocalError) (ys : List LocalError) → ((zs : List LocalError) → length zs ≤ length (rest zs)) → length ys ≤ length (put_among x rest ys)
put-longer_fresh x rest [] longer = omega arith
put-longer_fresh x rest (y ∷ ys) longer =
    fresh-longer x y (is_before y x) (is_before x y) ys (put_among x rest ys) rest (put-longer_fresh x rest ys longer) longer

-- nor is a fresh one
pub merged-longer_fresh : (xs ys : List LocalError) → length ys ≤ length (merged xs ys)
unfolding merged
merged-longer_fresh [] ys = omega arith
merged-longer_fresh (x ∷ xs) ys = put-longer_fresh x (λ zs. merged xs zs) ys (λ zs. merged-longer_fresh xs zs)
