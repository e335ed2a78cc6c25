-- Ascending places that pass a test: each one, neighbours, and how often one is placed.
use Rattle.std.proofs.Common.{◌≡◌, ℕ, zero, suc, ◌+◌, ◌<◌, ◌≤◌, Bool, true, false, cond, List, [], ◌∷◌, Option, Some, map, length, drop, get_or, refl, sym, ap, subst, ◌∙◌, inl, inr, arith}
use Rattle.std.specs.Prelude.{count_by, filter, Contains}
use Rattle.std.specs.List.{All, range_with_len}
use Rattle.std.proofs.lemmas.Bool.{cond_both, cases_eq, eqb-true, ne_eqb}
use Rattle.std.proofs.lemmas.List.Elements.{All-nil, All-cons, All-weaker}
use Rattle.std.proofs.lemmas.List.Sums.{sum_by-cons, sum_by-take-drop}
use Rattle.edi_tables.specs.Placement.{is_at}

-- a place from a on and below b that passes
abbrev pub Passes : (ℕ → Bool) → ℕ → ℕ → ℕ → Type 0
Passes p a b k = (a ≤ k) × (k < b) × (p k ≡ true)

-- the places of a filtered range are such
pub passing_each : (p : ℕ → Bool) (n a b : ℕ) → a + n ≡ b → All (Passes p a b) (filter p (range_with_len a n))
passing_each p zero a b end = All-nil (Passes p a b)
passing_each p (suc n) a b end =
    let rest : All (Passes p a b) (filter p (range_with_len (a + 1) n)) =
    All-weaker (Passes p (a + 1) b) (Passes p a b) (λ k here. (omega (arith, here.0), here.1, here.2)) (filter p (range_with_len (a + 1) n)) (passing_each p n (a + 1) b (omega arith)) in
    cond_both (p a) (a ∷ filter p (range_with_len (a + 1) n)) (filter p (range_with_len (a + 1) n)) (All (Passes p a b))
    (λ passes. All-cons (Passes p a b) a (filter p (range_with_len (a + 1) n)) (omega arith, omega arith, passes) rest) (λ _. rest)

-- the first place from a on that passes
record IsFirst (p : ℕ → Bool) (a first : ℕ) : Type 0 where
  from : a ≤ first
  passes : p first ≡ true
  before : (m : ℕ) → a ≤ m → m < first → p m ≡ false

-- two places that pass, and none between them does
pub record AreNeighbours (p : ℕ → Bool) (e next : ℕ) : Type 0 where
  pub less : e < next
  pub this : p e ≡ true
  pub other : p next ≡ true
  pub between : (m : ℕ) → e < m → m < next → p m ≡ false

-- where a place fails, the first one is after it
first_later : (p : ℕ → Bool) (a first : ℕ) → p a ≡ false → IsFirst p (a + 1) first → IsFirst p a first
first_later p a first fails later = record {
  from = omega (arith, later.from);
  passes = later.passes;
  before = λ m low below. elim (cases_eq a m) [
    | inl same ↦ ap p (sym same) ∙ fails
    | inr differ ↦ later.before m (omega arith) below
  ];
}

-- the head of a filtered range is the first place that passes
first_is : (p : ℕ → Bool) (n a : ℕ) → 0 < length (filter p (range_with_len a n)) → IsFirst p a (get_or (filter p (range_with_len a n)) 0 0)
first_is p zero a = λ some. absurd (omega arith)
first_is p (suc n) a =
    cond_both (p a) (a ∷ filter p (range_with_len (a + 1) n)) (filter p (range_with_len (a + 1) n)) (λ xs. 0 < length xs → IsFirst p a (get_or xs 0 0))
    (λ passes some. record { from = omega arith; passes = passes; before = λ m low below. absurd (omega arith) })
    (λ fails some. first_later p a (get_or (filter p (range_with_len (a + 1) n)) 0 0) fails (first_is p n (a + 1) some))

-- one more place before a list keeps its neighbours
neighbours_cons : (p : ℕ → Bool) (a : ℕ) (rest : List ℕ) → p a ≡ true → (0 < length rest → IsFirst p (a + 1) (get_or rest 0 0))
    → ((k : ℕ) → suc k < length rest → AreNeighbours p (get_or rest k 0) (get_or rest (suc k) 0))
    → (k : ℕ) → suc k < length (a ∷ rest) → AreNeighbours p (get_or (a ∷ rest) k 0) (get_or (a ∷ rest) (suc k) 0)
neighbours_cons p a rest passes first more zero within =
    let next = first (omega arith) in
    record {
      less = omega (arith, next.from);
      this = passes;
      other = next.passes;
      between = λ m past below. next.before m (omega arith) below;
    }
neighbours_cons p a rest passes first more (suc k) within = more k (omega arith)

-- each two that are side by side are neighbours
pub neighbours : (p : ℕ → Bool) (n a k : ℕ) → suc k < length (filter p (range_with_len a n))
    → AreNeighbours p (get_or (filter p (range_with_len a n)) k 0) (get_or (filter p (range_with_len a n)) (suc k) 0)
neighbours p zero a k = λ within. absurd (omega arith)
neighbours p (suc n) a k =
    cond_both (p a) (a ∷ filter p (range_with_len (a + 1) n)) (filter p (range_with_len (a + 1) n)) (λ xs. suc k < length xs → AreNeighbours p (get_or xs k 0) (get_or xs (suc k) 0))
    (λ passes. neighbours_cons p a (filter p (range_with_len (a + 1) n)) passes (first_is p n (a + 1)) (neighbours p n (a + 1)) k)
    (λ _. neighbours p n (a + 1) k)

-- where place 0 passes, it is first
pub starts_with : (p : ℕ → Bool) (n : ℕ) → 0 < n → p 0 ≡ true → (rest : List ℕ) × (filter p (range_with_len 0 n) ≡ 0 ∷ rest)
starts_with p zero some passes = absurd (omega arith)
starts_with p (suc n) some passes = (filter p (range_with_len (0 + 1) n), rw passes)

-- a test as a number
abbrev one_if : Bool → ℕ
one_if b = cond b 1 0

-- one placement more counts where it is at the entry
count_cons : (x a : ℕ) (rest : List ℕ) → count_by (is_at x) (map Some (a ∷ rest)) ≡ one_if (is_at x (Some a)) + count_by (is_at x) (map Some rest)
count_cons x a rest = sum_by-cons (λ y. cond (is_at x y) 1 0) (Some a) (map Some rest)

-- an entry before all places counts nowhere among them
count_past : (p : ℕ → Bool) (x n a : ℕ) → x < a → count_by (is_at x) (map Some (filter p (range_with_len a n))) ≡ 0
count_past p x zero a past = refl
count_past p x (suc n) a past =
    let rest = count_past p x n (a + 1) (omega arith) in
    cond_both (p a) (a ∷ filter p (range_with_len (a + 1) n)) (filter p (range_with_len (a + 1) n)) (λ xs. count_by (is_at x) (map Some xs) ≡ 0)
    (λ _. count_cons x a (filter p (range_with_len (a + 1) n)) ∙ (let none : one_if (is_at x (Some a)) ≡ 0 = ap one_if (ne_eqb a x (λ same. absurd (omega arith))) in omega arith)) (λ _. rest)

-- where a placement counts, the others do not
one_and_rest : (test : Bool) (rest : ℕ) → rest ≤ 1 → (test ≡ true → rest ≡ 0) → one_if test + rest ≤ 1
one_and_rest true rest few none = omega (arith, none refl)
one_and_rest false rest few none = omega arith

-- none is placed twice
pub count_once : (p : ℕ → Bool) (x n a : ℕ) → count_by (is_at x) (map Some (filter p (range_with_len a n))) ≤ 1
count_once p x zero a = omega arith
count_once p x (suc n) a =
    let rest = count_once p x n (a + 1) in
    cond_both (p a) (a ∷ filter p (range_with_len (a + 1) n)) (filter p (range_with_len (a + 1) n)) (λ xs. count_by (is_at x) (map Some xs) ≤ 1)
    (λ _. subst (λ count. count ≤ 1) (sym (count_cons x a (filter p (range_with_len (a + 1) n))))
    (one_and_rest (is_at x (Some a)) (count_by (is_at x) (map Some (filter p (range_with_len (a + 1) n)))) rest (λ same. count_past p x n (a + 1) (omega (arith, eqb-true a x same))))) (λ _. rest)

-- nor after the first few
pub count_drop : (q : Option ℕ → Bool) (n : ℕ) (xs : List (Option ℕ)) → count_by q (drop n xs) ≤ count_by q xs
count_drop q n xs = omega (arith, sum_by-take-drop (λ y. cond (q y) 1 0) xs n)

kept_more : (p : ℕ → Bool) (h : ℕ) (t : List ℕ) (c : ℕ) (passes : Bool) → p h ≡ passes → Contains (filter p t) c → Contains (filter p (h ∷ t)) c
kept_more p h t c true is found = rw is (suc found.0, omega (arith, found.1), found.2)
kept_more p h t c false is found = rw is found

-- a member that passes is kept
pub kept : (p : ℕ → Bool) (xs : List ℕ) (c k : ℕ) → k < length xs → get_or xs k c ≡ c → p c ≡ true → Contains (filter p xs) c
kept p [] c k within at passes = absurd (omega arith)
kept p (h ∷ t) c zero within at passes =
    let first : p h ≡ true = ap p at ∙ passes in
    rw first (0, omega arith, at)
kept p (h ∷ t) c (suc k) within at passes = kept_more p h t c (p h) refl (kept p t c k (omega arith) at passes)
