-- The first member of a list with the least rank.
use Rattle.std.proofs.Common.{◌≡◌, ℕ, ◌<◌, ◌≤◌, Bool, true, false, cond, List, [], ◌∷◌, Option, Some, None, refl, sym, ap, subst, ◌∙◌, ◌⊎◌, inl, inr, ⊎_elim, arith}
use Rattle.std.specs.Prelude.{All, filter, find, nat_lt, ◌&&◌, ◌==◌, if◌then◌else◌}
use Rattle.std.proofs.lemmas.Bool.{cases_Bool, cases_lt, eq-eqb, ne_eqb, lt-ltb, ltb-true}
use Rattle.std.proofs.lemmas.List.Elements.{All-nil, All-cons, All-head, All-tail}
use Rattle.table_walk.specs.Reading.{IsLeast, IsLeastOf, better, least_from}

pub le_ltb : (m n : ℕ) → n ≤ m → nat_lt m n ≡ false
le_ltb m n below = elim (cases_Bool (nat_lt m n)) [
  | inl less ↦ absurd (omega (arith, ltb-true m n less))
  | inr not ↦ not
]

module _ (rank : ℕ → ℕ) where
  -- what holds of each member holds of the least
  pub least_has : (P : ℕ → Type 0) (xs : List ℕ) (c : ℕ) → All P xs → IsLeast rank xs c → P c
  least_has P [] c all least = absurd least
  least_has P (x ∷ xs) c all (inl here) = subst P (sym here.0) (All-head P x xs all)
  least_has P (x ∷ xs) c all (inr later) = least_has P xs c (All-tail P x xs all) later.1

  -- there is one at most
  pub least_once : (xs : List ℕ) (c d : ℕ) → IsLeast rank xs c → IsLeast rank xs d → c ≡ d
  least_once [] c d one two = absurd one
  least_once (x ∷ xs) c d (inl one) (inl two) = one.0 ∙ sym two.0
  least_once (x ∷ xs) c d (inl one) (inr two) = absurd (omega (arith, two.0, least_has (λ y. rank x ≤ rank y) xs d one.1 two.1))
  least_once (x ∷ xs) c d (inr one) (inl two) = absurd (omega (arith, one.0, least_has (λ y. rank x ≤ rank y) xs c two.1 one.1))
  least_once (x ∷ xs) c d (inr one) (inr two) = least_once xs c d one.1 two.1

  least_head : (x : ℕ) (xs : List ℕ) (c : ℕ) → IsLeast rank (x ∷ xs) c → rank c ≤ rank x
  least_head x xs c (inl here) = let same : rank c ≡ rank x = ap rank here.0 in omega (arith, same)
  least_head x xs c (inr later) = omega (arith, later.0)

  -- a later one takes the place of the best only where its rank is less
  pub better_yes : (best c : ℕ) → rank c < rank best → better rank (Some best) c ≡ Some c
  better_yes best c less = ap (λ b. if b then Some c else Some best) (lt-ltb (rank c) (rank best) less)

  pub better_no : (best c : ℕ) → rank best ≤ rank c → better rank (Some best) c ≡ Some best
  better_no best c below = ap (λ b. if b then Some c else Some best) (le_ltb (rank c) (rank best) below)

  skipped : (best x : ℕ) (xs : List ℕ) (c : ℕ) → rank best ≤ rank x → IsLeast rank (best ∷ xs) c → IsLeast rank (best ∷ x ∷ xs) c
  skipped best x xs c below (inl here) = inl (here.0, All-cons (λ y. rank best ≤ rank y) x xs below here.1)
  skipped best x xs c below (inr later) = inr (later.0, inr (omega (arith, later.0, below), later.1))

  abbrev Found : ℕ → List ℕ → Type 0
  Found best xs = (c : ℕ) × (least_from rank (Some best) xs ≡ Some c) × IsLeast rank (best ∷ xs) c

  -- the best of a list and one before it is the least of both
  found : (xs : List ℕ) (best : ℕ) → Found best xs
  found [] best = (best, refl, inl (refl, All-nil (λ y. rank best ≤ rank y)))
  found (x ∷ xs) best = elim (cases_lt (rank x) (rank best)) [
    | inl less ↦
        let more = found xs x in
        (more.0, ap (λ b. least_from rank b xs) (better_yes best x less) ∙ more.1, inr (omega (arith, less, least_head x xs more.0 more.2), more.2))
    | inr below ↦
        let more = found xs best in
        (more.0, ap (λ b. least_from rank b xs) (better_no best x below) ∙ more.1, skipped best x xs more.0 below more.2)
  ]

  pub least_of : (xs : List ℕ) → IsLeastOf rank xs (least_from rank None xs)
  least_of [] = refl
  least_of (x ∷ xs) =
      let more = found xs x in
      subst (IsLeastOf rank (x ∷ xs)) (sym more.1) more.2

  pub least_of_once : (xs : List ℕ) (c d : Option ℕ) → IsLeastOf rank xs c → IsLeastOf rank xs d → c ≡ d
  least_of_once xs None None one two = refl
  least_of_once xs None (Some d) one two = absurd (subst (λ ys. IsLeast rank ys d) one two)
  least_of_once xs (Some c) None one two = absurd (subst (λ ys. IsLeast rank ys c) two one)
  least_of_once xs (Some c) (Some d) one two = ap Some (least_once xs c d one two)

  -- where no later one is less, the best stays
  pub least_kept : (best : ℕ) (xs : List ℕ) → All (λ y. rank best ≤ rank y) xs → least_from rank (Some best) xs ≡ Some best
  least_kept best [] all = refl
  least_kept best (x ∷ xs) all =
      ap (λ b. least_from rank b xs) (better_no best x (All-head (λ y. rank best ≤ rank y) x xs all))
      ∙ least_kept best xs (All-tail (λ y. rank best ≤ rank y) x xs all)

  either : (y : ℕ) (xs : List ℕ) (c : ℕ) → IsLeast rank (y ∷ xs) c → (c ≡ y) ⊎ (((rank y == 0) ≡ false) × IsLeast rank xs c)
  either y xs c (inl here) = inl here.0
  either y xs c (inr later) = inr (ne_eqb (rank y) 0 (λ none. omega (arith, none, later.0)), later.1)

  abbrev first_zero : (ℕ → Bool) → List ℕ → Option ℕ
  first_zero passes xs = find (λ y. passes y && rank y == 0) xs

  first_by : (passes : ℕ → Bool) (x : ℕ) (xs : List ℕ) (c : ℕ) → rank c ≡ 0 → (IsLeast rank (filter passes xs) c → first_zero passes xs ≡ Some c)
      → (b : Bool) → passes x ≡ b → IsLeast rank (cond b (x ∷ filter passes xs) (filter passes xs)) c → first_zero passes (x ∷ xs) ≡ Some c
  first_by passes x xs c none more false is least = ap (λ b. if (b && rank x == 0) then Some x else first_zero passes xs) is ∙ more least
  first_by passes x xs c none more true is least =
      ap (λ b. if (b && rank x == 0) then Some x else first_zero passes xs) is
      ∙ ⊎_elim
      (λ same. ap (λ b. if b then Some x else first_zero passes xs) (eq-eqb (rank x) 0 (ap rank (sym same) ∙ none)) ∙ ap Some (sym same))
      (λ later. ap (λ b. if b then Some x else first_zero passes xs) later.0 ∙ more later.1)
      (either x (filter passes xs) c least)

  -- a least of rank 0 is the first of rank 0
  pub least_first : (passes : ℕ → Bool) (xs : List ℕ) (c : ℕ) → rank c ≡ 0 → IsLeast rank (filter passes xs) c → find (λ y. passes y && rank y == 0) xs ≡ Some c
  least_first passes [] c none least = absurd least
  least_first passes (x ∷ xs) c none least =
      first_by passes x xs c none (least_first passes xs c none) (passes x) refl
      least

better_same : (one other : ℕ → ℕ) → ((c : ℕ) → one c ≡ other c) → (x : ℕ) (best : Option ℕ) → better one best x ≡ better other best x
better_same one other same x None = refl
better_same one other same x (Some best) =
    ap (λ (n : ℕ). if nat_lt n (one best) then Some x else Some best) (same x) ∙ ap (λ (n : ℕ). if nat_lt (other x) n then Some x else Some best) (same best)

-- ranks that agree choose the same
pub least_same : (one other : ℕ → ℕ) → ((c : ℕ) → one c ≡ other c) → (best : Option ℕ) (xs : List ℕ) → least_from one best xs ≡ least_from other best xs
least_same one other same best [] = refl
least_same one other same best (x ∷ xs) = ap (λ b. least_from one b xs) (better_same one other same x best) ∙ least_same one other same (better other best x) xs
