-- Strictly ascending lists: there is one with given members.
use Rattle.std.proofs.Common.{◌≡◌, ℕ, zero, suc, ◌⊎◌, inl, inr, true, false, List, [], ◌∷◌, sym, ap, ◌∙◌, refl, Ordering, IsPermutation, Contains, arith, true≢false}
use Rattle.std.specs.declared.cmp.Ordering.TheVariants.{Less, Equal, Greater}
use Rattle.std.specs.Cmp.Lexicographic.{slice_cmp, texts_ties}
use Rattle.std.specs.Ordering.{nat_cmp, is_lt, is_eq, ordering_reverse}
use Rattle.std.specs.Str.{bytes_eq}
use Rattle.std.proofs.lemmas.Cmp.{nat_list_cmp_total, tied_itself}
use Rattle.std.proofs.lemmas.List.Sorted.{Contains-permutation, IsPermutation-sym}
use Rattle.edi_tables.specs.Ascending.{is_before, IsAscendingBy}

-- a name doesn't come before itself, nor before one that comes before it, and coming before goes on
pub before-self : (a : List ℕ) → is_before a a ≡ false
before-self a = ap is_lt (tied_itself nat_list_cmp_total a)

less-from-before : (o : Ordering) → is_lt o ≡ true → o ≡ Less
less-from-before Less e = refl
less-from-before Equal e = absurd (true≢false (sym e))
less-from-before Greater e = absurd (true≢false (sym e))

pub before-trans : (a b c : List ℕ) → is_before a b ≡ true → is_before b c ≡ true → is_before a c ≡ true
before-trans a b c p q = ap is_lt (nat_list_cmp_total.trans a b c (less-from-before _ p) (less-from-before _ q))

pub before-not-back : (a b : List ℕ) → is_before a b ≡ true → is_before b a ≡ true → ⊥
before-not-back a b p q = true≢false (sym (before-trans a b a p q) ∙ before-self a)

-- of two names that differ one comes before the other
pub differ-from-before : (a b : List ℕ) → is_before a b ≡ true → bytes_eq a b ≡ false
differ-from-before a b p = texts_ties a b ∙ ap is_eq (less-from-before _ p)

before-either : (a b : List ℕ) (o : Ordering) → slice_cmp nat_cmp b a ≡ o → slice_cmp nat_cmp a b ≡ ordering_reverse o → is_before b a ≡ false → bytes_eq a b ≡ false → is_before a b ≡ true
before-either a b Less is e p q = absurd (true≢false (sym (ap is_lt is) ∙ p))
before-either a b Equal is e p q = absurd (true≢false (sym (texts_ties a b ∙ ap is_eq e) ∙ q))
before-either a b Greater is e p q = ap is_lt e

pub before-from-differ : (a b : List ℕ) → is_before b a ≡ false → bytes_eq a b ≡ false → is_before a b ≡ true
before-from-differ a b p q =
    before-either a b (slice_cmp nat_cmp b a) refl (nat_list_cmp_total.antisymm a b) p q

-- a member is the head or one of the others
contains-cases : {A : Type 0} (y : A) (ys : List A) (x : A) → Contains (y ∷ ys) x → (y ≡ x) ⊎ Contains ys x
contains-cases y ys x (zero, within, is) = inl is
contains-cases y ys x (suc k, within, is) = inr (k, omega (arith, within), is)

contains-head : {A : Type 0} (x : A) (xs : List A) → Contains (x ∷ xs) x
contains-head x xs = (0, omega arith, refl)

contains-tail : {A : Type 0} (x : A) (xs : List A) (z : A) → Contains xs z → Contains (x ∷ xs) z
contains-tail x xs z (k, within, is) = (suc k, omega (arith, within), is)

contains-none : {A : Type 0} (x : A) → Contains [] x → ⊥
contains-none x found = absurd (omega (arith, found.1))

module _ {A : Type 0} (name : A → List ℕ) where
  -- the head comes before each other member, and the others are in order
  pub ascending-head : (x : A) (xs : List A) (z : A) → IsAscendingBy name (x ∷ xs) → Contains xs z → is_before (name x) (name z) ≡ true
  ascending-head x xs z order (k, within, is) =
      ap (λ (y : A). is_before (name x) (name y)) (sym is) ∙ order 0 (suc k) z (omega arith) (omega (arith, within))

  pub ascending-tail : (x : A) (xs : List A) → IsAscendingBy name (x ∷ xs) → IsAscendingBy name xs
  ascending-tail x xs order i j d less within = order (suc i) (suc j) d (omega arith) (omega arith)

  same-heads : (x y : A) (xs ys : List A) → IsAscendingBy name (x ∷ xs) → IsAscendingBy name (y ∷ ys) → (y ≡ x) ⊎ Contains ys x → (x ≡ y) ⊎ Contains xs y → x ≡ y
  same-heads x y xs ys one two (inl is) found = sym is
  same-heads x y xs ys one two (inr there) (inl is) = is
  same-heads x y xs ys one two (inr there) (inr back) =
      absurd (before-not-back (name x) (name y) (ascending-head x xs y one back) (ascending-head y ys x two there))

  not-head : (x y : A) (xs ys : List A) (z : A) → x ≡ y → IsAscendingBy name (x ∷ xs) → Contains xs z → (y ≡ z) ⊎ Contains ys z → Contains ys z
  not-head x y xs ys z same order found (inr there) = there
  not-head x y xs ys z same order found (inl is) =
      absurd (true≢false (sym (ascending-head x xs z order found) ∙ ap (λ (w : A). is_before (name w) (name z)) (same ∙ is) ∙ before-self (name z)))

  -- two ascending lists with the same members are equal
  pub ascending-once : (xs ys : List A) → IsAscendingBy name xs → IsAscendingBy name ys
      → ((x : A) → Contains xs x → Contains ys x) → ((x : A) → Contains ys x → Contains xs x) → xs ≡ ys
  ascending-once [] [] one two there back = refl
  ascending-once [] (y ∷ ys) one two there back = absurd (contains-none y (back y (contains-head y ys)))
  ascending-once (x ∷ xs) [] one two there back = absurd (contains-none x (there x (contains-head x xs)))
  ascending-once (x ∷ xs) (y ∷ ys) one two there back =
      let same : x ≡ y = same-heads x y xs ys one two (contains-cases y ys x (there x (contains-head x xs))) (contains-cases x xs y (back y (contains-head y ys))) in
      let more : xs ≡ ys = ascending-once xs ys (ascending-tail x xs one) (ascending-tail y ys two)
      (λ z found. not-head x y xs ys z same one found (contains-cases y ys z (there z (contains-tail x xs z found))))
      (λ z found. not-head y x ys xs z (sym same) two found (contains-cases x xs z (back z (contains-tail y ys z found)))) in
      ap (λ (z : A). z ∷ xs) same ∙ ap (λ (zs : List A). y ∷ zs) more

  -- so two ascending lists of which one is a permutation of the other are equal
  pub ascending-permutation : (xs ys : List A) → IsAscendingBy name xs → IsAscendingBy name ys → IsPermutation xs ys → xs ≡ ys
  ascending-permutation xs ys one two moved =
      ascending-once xs ys one two (λ x found. Contains-permutation xs ys x moved found)
      (λ x found. Contains-permutation ys xs x (IsPermutation-sym xs ys moved) found)
