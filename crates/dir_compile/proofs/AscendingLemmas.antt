-- Lists in ascending order of names: there is one with given members.
use Rattle.std.proofs.Common.{◌≡◌, ℕ, zero, suc, ◌<◌, ◌≤◌, ◌⊎◌, inl, inr, Bool, true, false, List, [], ◌∷◌, length, get_or, sym, refl, subst, if◌then◌else◌, IsPermutation, Contains, All, arith}
use Rattle.std.specs.List.{AllByRecursion, IsDistinct}
use Rattle.std.specs.List.Sorted.{IsSortedBy}
use Rattle.std.specs.Str.{bytes_eq}
use Rattle.std.proofs.lemmas.Cmp.{nat_list_cmp_total, nat_list_eq_equiv}
use Rattle.std.proofs.lemmas.List.Sorted.{Contains-permutation, IsPermutation-refl, IsPermutation-sym, IsPermutation-trans, IsPermutation-cons, IsPermutation-middle, sorted_far, ranks_by}
use Rattle.std.proofs.lemmas.List.{get_or_default}
use Rattle.std.proofs.lemmas.List.Kept.{AllPairs-cons}
use Rattle.std.proofs.lemmas.Map.Keys.{IsDistinct-IsPermutation}
use Rattle.edi_tables.specs.Ascending.{is_before, IsAscendingBy}
use Rattle.edi_tables.proofs.AscendingLemmas.{before-trans, differ-from-before, before-from-differ, ascending-permutation}
use Rattle.dir_compile.specs.InOrder.{put_in_order, ascending_by}

-- x is a member
abbrev pub Has : {A : Type 0} → List A → A → Type 0
Has [] x = ⊥
Has (y ∷ ys) x = (x ≡ y) ⊎ Has ys x

-- each member's name comes before the names after it
abbrev pub IsAscending : {A : Type 0} → (A → List ℕ) → List A → Type 0
IsAscending name [] = Unit {0}
IsAscending {A} name (x ∷ xs) = ((y : A) → Has xs y → is_before (name x) (name y) ≡ true) × IsAscending name xs

-- two lists have the same members
pub record HasSame {A : Type 0} (xs ys : List A) : Type 0 where
  pub there : (x : A) → Has xs x → Has ys x
  pub back : (x : A) → Has ys x → Has xs x

-- each member's name differs from those after it
abbrev pub IsApart : {A : Type 0} → (A → List ℕ) → List A → Type 0
IsApart name [] = Unit {0}
IsApart {A} name (x ∷ xs) = ((y : A) → Has xs y → bytes_eq (name x) (name y) ≡ false) × IsApart name xs

pub apart-from-ascending : {A : Type 0} (name : A → List ℕ) (xs : List A) → IsAscending name xs → IsApart name xs
apart-from-ascending name [] p = tt
apart-from-ascending name (x ∷ xs) p = (λ y h. differ-from-before (name x) (name y) (p.0 y h), apart-from-ascending name xs p.1)

-- the members of a list that an item was put into
put-cases : {A : Type 0} (b : Bool) (x y : A) (ys zs : List A) (z : A) → (Has zs z → (z ≡ x) ⊎ Has ys z) → Has (if b then y ∷ zs else x ∷ y ∷ ys) z → (z ≡ x) ⊎ Has (y ∷ ys) z
put-cases true x y ys zs z rec (inl e) = inr (inl e)
put-cases true x y ys zs z rec (inr k) = elim (rec k) [ inl e ↦ inl e | inr m ↦ inr (inr m) ]
put-cases false x y ys zs z rec k = k

pub Has-put : {A : Type 0} (name : A → List ℕ) (x : A) (ys : List A) (z : A) → Has (put_in_order name x ys) z → (z ≡ x) ⊎ Has ys z
Has-put name x [] z h = h
Has-put name x (y ∷ ys) z h =
    put-cases (is_before (name y) (name x)) x y ys (put_in_order name x ys) z (Has-put name x ys z) h

cases-put : {A : Type 0} (b : Bool) (x y : A) (ys zs : List A) (z : A) → ((z ≡ x) ⊎ Has ys z → Has zs z) → (z ≡ x) ⊎ Has (y ∷ ys) z → Has (if b then y ∷ zs else x ∷ y ∷ ys) z
cases-put true x y ys zs z rec (inl e) = inr (rec (inl e))
cases-put true x y ys zs z rec (inr (inl e)) = inl e
cases-put true x y ys zs z rec (inr (inr k)) = inr (rec (inr k))
cases-put false x y ys zs z rec k = k

pub put-Has : {A : Type 0} (name : A → List ℕ) (x : A) (ys : List A) (z : A) → (z ≡ x) ⊎ Has ys z → Has (put_in_order name x ys) z
put-Has name x [] z h = h
put-Has name x (y ∷ ys) z h =
    cases-put (is_before (name y) (name x)) x y ys (put_in_order name x ys) z (put-Has name x ys z) h

-- and of the ordered list
pub same-ascending_by : {A : Type 0} (name : A → List ℕ) (xs : List A) → HasSame xs (ascending_by name xs)
same-ascending_by name [] = record { there = λ x h. h; back = λ x h. h }
same-ascending_by name (x ∷ xs) =
    let rest = same-ascending_by name xs in
    record {
      there = λ z h. put-Has name x (ascending_by name xs) z (elim h [ inl e ↦ inl e | inr k ↦ inr (rest.there z k) ]);
      back = λ z h. elim (Has-put name x (ascending_by name xs) z h) [ inl e ↦ inl e | inr k ↦ inr (rest.back z k) ];
    }

-- the two places of an item that is put before a list or after its head
put-ascending-at : {A : Type 0} (b : Bool) (name : A → List ℕ) (x y : A) (ys : List A) → is_before (name y) (name x) ≡ b → IsAscending name (y ∷ ys) → ((z : A) → Has (y ∷ ys) z → bytes_eq (name x) (name z) ≡ false) → IsAscending name (put_in_order name x ys) → IsAscending name (if b then y ∷ put_in_order name x ys else x ∷ y ∷ ys)
put-ascending-at true name x y ys e p q rec =
    (λ z h. elim (Has-put name x ys z h) [ inl f ↦ subst (λ w. is_before (name y) (name w) ≡ true) (sym f) e | inr k ↦ p.0 z k ], rec)
put-ascending-at false name x y ys e p q rec =
    let first : is_before (name x) (name y) ≡ true = before-from-differ (name x) (name y) e (q y (inl refl)) in
    (λ z h. elim h [ inl f ↦ subst (λ w. is_before (name x) (name w) ≡ true) (sym f) first | inr k ↦ before-trans (name x) (name y) (name z) first (p.0 z k) ], p)

-- an item goes in order among names that differ from its own
put-ascending : {A : Type 0} (name : A → List ℕ) (x : A) (ys : List A) → IsAscending name ys → ((y : A) → Has ys y → bytes_eq (name x) (name y) ≡ false) → IsAscending name (put_in_order name x ys)
put-ascending name x [] p q = (λ y h. absurd h, tt)
put-ascending name x (y ∷ ys) p q =
    put-ascending-at (is_before (name y) (name x)) name x y ys refl p q (put-ascending name x ys p.1 (λ z h. q z (inr h)))

pub ascending_by-ascending : {A : Type 0} (name : A → List ℕ) (xs : List A) → IsApart name xs → IsAscending name (ascending_by name xs)
ascending_by-ascending name [] p = tt
ascending_by-ascending name (x ∷ xs) p =
    put-ascending name x (ascending_by name xs) (ascending_by-ascending name xs p.1) (λ y h. p.0 y ((same-ascending_by name xs).back y h))

-- membership by place
pub has-at : {A : Type 0} (xs : List A) (x : A) (k : ℕ) → k < length xs → get_or xs k x ≡ x → Has xs x
has-at [] x k lt e = absurd (omega (arith, lt))
has-at (y ∷ ys) x zero lt e = inl (sym e)
has-at (y ∷ ys) x (suc k) lt e = inr (has-at ys x k (omega arith) e)

pub Has-from-Contains : {A : Type 0} (xs : List A) (x : A) → Contains xs x → Has xs x
Has-from-Contains xs x h = has-at xs x h.0 h.1 h.2

pub Contains-from-Has : {A : Type 0} (xs : List A) (x : A) → Has xs x → Contains xs x
Contains-from-Has [] x h = absurd h
Contains-from-Has (y ∷ ys) x (inl e) = (0, omega arith, sym e)
Contains-from-Has (y ∷ ys) x (inr h) =
    let at = Contains-from-Has ys x h in
    (suc at.0, omega (arith, at.1), at.2)

-- what holds of each member holds at each place
pub all-from-members : {A : Type 0} (P : A → Type 0) (xs : List A) → ((x : A) → Has xs x → P x) → All P xs
all-from-members P xs h k d lt =
    let x = get_or xs k d in
    h x (has-at xs x k lt (get_or_default xs k x d lt))

-- ascending order, said of pairs
pub pairs-from-ascending : {A : Type 0} (name : A → List ℕ) (xs : List A) → IsAscending name xs → IsAscendingBy name xs
pairs-from-ascending name [] p = λ i j d less within. absurd (omega arith)
pairs-from-ascending {A} name (x ∷ xs) p =
    AllPairs-cons (λ (a b : A). is_before (name a) (name b) ≡ true) x xs
    (all-from-members (λ y. is_before (name x) (name y) ≡ true) xs p.0) (pairs-from-ascending name xs p.1)

pub same-from-permutation : {A : Type 0} (xs ys : List A) → IsPermutation xs ys → HasSame xs ys
same-from-permutation xs ys p = record {
  there = λ x h. Has-from-Contains ys x (Contains-permutation xs ys x p (Contains-from-Has xs x h));
  back = λ x h. Has-from-Contains xs x (Contains-permutation ys xs x (IsPermutation-sym xs ys p) (Contains-from-Has ys x h));
}

-- a list in which no name comes before that of a member in front, and names differ, is ascending
ascending-from-far : {A : Type 0} (name : A → List ℕ) (ys : List A) → ((i j : ℕ) (d : A) → i ≤ j → j < length ys → is_before (name (get_or ys j d)) (name (get_or ys i d)) ≡ false) → IsApart name ys → IsAscending name ys
ascending-from-far name [] far p = tt
ascending-from-far name (x ∷ ys) far p = (
  λ y h. let at = Contains-from-Has ys y h in
      before-from-differ (name x) (name y) (subst (λ w. is_before (name w) (name x) ≡ false) at.2 (far 0 (suc at.0) y (omega arith) (omega (arith, at.1)))) (p.0 y h),
  ascending-from-far name ys (λ i j d le lt. far (suc i) (suc j) d (omega arith) (omega arith)) p.1,
)

-- names that differ in a list differ in each list that has its members in another order
by_name : {A : Type 0} → (A → List ℕ) → A → A → Bool
by_name name x y = bytes_eq (name x) (name y)

all-from-has : {A : Type 0} (P : A → Type 0) (xs : List A) → ((y : A) → Has xs y → P y) → AllByRecursion P xs
all-from-has P [] h = tt
all-from-has P (x ∷ xs) h = (h x (inl refl), all-from-has P xs (λ y k. h y (inr k)))

has-from-all : {A : Type 0} (P : A → Type 0) (xs : List A) → AllByRecursion P xs → (y : A) → Has xs y → P y
has-from-all P [] h y k = absurd k
has-from-all P (x ∷ xs) h y (inl e) = subst P (sym e) h.0
has-from-all P (x ∷ xs) h y (inr k) = has-from-all P xs h.1 y k

distinct-from-apart : {A : Type 0} (name : A → List ℕ) (xs : List A) → IsApart name xs → IsDistinct (by_name name) xs
unfolding IsDistinct by_name
distinct-from-apart name [] p = tt
distinct-from-apart name (x ∷ xs) p = (all-from-has _ xs p.0, distinct-from-apart name xs p.1)

apart-from-distinct : {A : Type 0} (name : A → List ℕ) (xs : List A) → IsDistinct (by_name name) xs → IsApart name xs
unfolding IsDistinct by_name
apart-from-distinct name [] p = tt
apart-from-distinct name (x ∷ xs) p = (has-from-all _ xs p.0, apart-from-distinct name xs p.1)

by_name-flip : {A : Type 0} (name : A → List ℕ) (x y : A) → by_name name x y ≡ by_name name y x
unfolding by_name
by_name-flip name x y = nat_list_eq_equiv.symm (name x) (name y)

pub apart-permutation : {A : Type 0} (name : A → List ℕ) (xs ys : List A) → IsPermutation xs ys → IsApart name xs → IsApart name ys
apart-permutation name xs ys p q =
    apart-from-distinct name ys (IsDistinct-IsPermutation (by_name name) (by_name-flip name) xs ys p (distinct-from-apart name xs q))

-- an item that is put in order is one more
put-at : {A : Type 0} (name : A → List ℕ) (x y : A) (ys : List A) (b : Bool) → IsPermutation (x ∷ ys) (put_in_order name x ys) → IsPermutation (x ∷ y ∷ ys) (if b then y ∷ put_in_order name x ys else x ∷ y ∷ ys)
put-at name x y ys true p =
    IsPermutation-trans (x ∷ y ∷ ys) (y ∷ x ∷ ys) (y ∷ put_in_order name x ys) (IsPermutation-middle (x ∷ []) y ys) (IsPermutation-cons y (x ∷ ys) (put_in_order name x ys) p)
put-at name x y ys false p = IsPermutation-refl (x ∷ y ∷ ys)

put-permutation : {A : Type 0} (name : A → List ℕ) (x : A) (ys : List A) → IsPermutation (x ∷ ys) (put_in_order name x ys)
put-permutation name x [] = IsPermutation-refl (x ∷ [])
put-permutation name x (y ∷ ys) = put-at name x y ys (is_before (name y) (name x)) (put-permutation name x ys)

pub ascending_by-permutation : {A : Type 0} (name : A → List ℕ) (xs : List A) → IsPermutation xs (ascending_by name xs)
ascending_by-permutation name [] = IsPermutation-refl []
ascending_by-permutation name (x ∷ xs) =
    IsPermutation-trans (x ∷ xs) (x ∷ ascending_by name xs) (put_in_order name x (ascending_by name xs))
    (IsPermutation-cons x xs (ascending_by name xs) (ascending_by-permutation name xs)) (put-permutation name x (ascending_by name xs))

-- a sorted permutation of a list whose names differ is its ordered list
pub ascending_by-sorted : {A : Type 0} (name : A → List ℕ) (xs ys : List A) → IsApart name xs → IsPermutation xs ys → IsSortedBy (λ x y. is_before (name x) (name y)) ys → ys ≡ ascending_by name xs
ascending_by-sorted name xs ys apart moved sorted =
    ascending-permutation name ys (ascending_by name xs)
    (pairs-from-ascending name ys (ascending-from-far name ys (sorted_far _ (ranks_by nat_list_cmp_total name) ys sorted) (apart-permutation name xs ys moved apart)))
    (pairs-from-ascending name (ascending_by name xs) (ascending_by-ascending name xs apart))
    (IsPermutation-trans ys xs (ascending_by name xs) (IsPermutation-sym xs ys moved) (ascending_by-permutation name xs))
