-- The places of a stretch that pass a test.
use Rattle.std.proofs.Common.{◌≡◌, ℕ, zero, suc, ◌+◌, ◌-◌, ◌<◌, ◌≤◌, Bool, true, false, cond, List, [], ◌∷◌, ◌++◌, refl, sym, ap, ◌∙◌, inl, inr, arith}
use Rattle.std.specs.Prelude.{filter}
use Rattle.std.specs.List.{range_with_len}
use Rattle.std.proofs.lemmas.Bool.{cases_lt}

-- the places from a on and below e that pass
abbrev pub passing : (ℕ → Bool) → ℕ → ℕ → List ℕ
passing p a e = filter p (range_with_len a (e - a))

sub-past : (a e : ℕ) → e ≤ a → e - a ≡ 0
sub-past a e past = omega arith

range_end : (a e : ℕ) → e ≤ a → range_with_len a (e - a) ≡ []
range_end a e past = ap (range_with_len a) (sub-past a e past)

pub passing_end : (p : ℕ → Bool) (a e : ℕ) → e ≤ a → passing p a e ≡ []
passing_end p a e past = ap (filter p) (range_end a e past)

sub-more : (a e : ℕ) → a < e → e - a ≡ suc (e - (a + 1))
sub-more a e below = omega arith

pub passing_more : (p : ℕ → Bool) (a e : ℕ) → a < e → passing p a e ≡ cond (p a) (a ∷ passing p (a + 1) e) (passing p (a + 1) e)
passing_more p a e below = ap (λ n. filter p (range_with_len a n)) (sub-more a e below)

pub passing_yes : (p : ℕ → Bool) (a e : ℕ) → a < e → p a ≡ true → passing p a e ≡ a ∷ passing p (a + 1) e
passing_yes p a e below passes = passing_more p a e below ∙ rw passes refl

pub passing_no : (p : ℕ → Bool) (a e : ℕ) → a < e → p a ≡ false → passing p a e ≡ passing p (a + 1) e
passing_no p a e below fails = passing_more p a e below ∙ rw fails refl

passing_from : (p : ℕ → Bool) (m a b e : ℕ) → a + m ≡ b → b ≤ e → ((k : ℕ) → a ≤ k → k < b → p k ≡ false) → passing p a e ≡ passing p b e
passing_from p zero a b e sum within none = ap (λ n. passing p n e) (omega arith)
passing_from p (suc m) a b e sum within none =
    passing_no p a e (omega arith) (none a (omega arith) (omega arith))
    ∙ passing_from p m (a + 1) b e (omega arith) within (λ k from below. none k (omega arith) below)

-- places that fail are left out
pub passing_skip : (p : ℕ → Bool) (a b e : ℕ) → a ≤ b → b ≤ e → ((k : ℕ) → a ≤ k → k < b → p k ≡ false) → passing p a e ≡ passing p b e
passing_skip p a b e low high none = passing_from p (b - a) a b e (omega arith) high none

pub passing_none : (p : ℕ → Bool) (a e : ℕ) → ((k : ℕ) → a ≤ k → k < e → p k ≡ false) → passing p a e ≡ []
passing_none p a e none = elim (cases_lt e a) [
  | inl past ↦ passing_end p a e (omega arith)
  | inr low ↦ passing_skip p a e e low (omega arith) none ∙ passing_end p e e (omega arith)
]

-- two tests that agree there pass the same places
passing_same_from : (p q : ℕ → Bool) (n a e : ℕ) → e ≤ a + n → ((k : ℕ) → a ≤ k → k < e → p k ≡ q k) → passing p a e ≡ passing q a e
passing_same_from p q zero a e fuel same = passing_end p a e (omega arith) ∙ sym (passing_end q a e (omega arith))
passing_same_from p q (suc n) a e fuel same = elim (cases_lt a e) [
  | inl below ↦ passing_more p a e below ∙ ap (λ found. cond found (a ∷ passing p (a + 1) e) (passing p (a + 1) e)) (same a (omega arith) below)
      ∙ ap (λ more. cond (q a) (a ∷ more) more) (passing_same_from p q n (a + 1) e (omega arith) (λ k from. same k (omega arith)))
      ∙ sym (passing_more q a e below)
  | inr past ↦ passing_end p a e past ∙ sym (passing_end q a e past)
]

pub passing_same : (p q : ℕ → Bool) (a e : ℕ) → ((k : ℕ) → a ≤ k → k < e → p k ≡ q k) → passing p a e ≡ passing q a e
passing_same p q a e same = passing_same_from p q e a e (omega arith) same

-- a stretch in two parts
split_more : (passes : Bool) (a : ℕ) (more front back : List ℕ) → more ≡ front ++ back → cond passes (a ∷ more) more ≡ cond passes (a ∷ front) front ++ back
split_more true a more front back parts = ap (λ rest. a ∷ rest) parts
split_more false a more front back parts = parts

passing_split_from : (p : ℕ → Bool) (n a b e : ℕ) → b ≤ a + n → a ≤ b → b ≤ e → passing p a e ≡ passing p a b ++ passing p b e
passing_split_from p zero a b e fuel low high = rw (passing_end p a b (omega arith)) (ap (λ k. passing p k e) (omega arith))
passing_split_from p (suc n) a b e fuel low high = elim (cases_lt a b) [
  | inl below ↦ passing_more p a e (omega arith)
      ∙ split_more (p a) a _ _ _ (passing_split_from p n (a + 1) b e (omega arith) (omega arith) high)
      ∙ ap (λ front. front ++ passing p b e) (sym (passing_more p a b below))
  | inr past ↦ rw (passing_end p a b past) (ap (λ k. passing p k e) (omega arith))
]

pub passing_split : (p : ℕ → Bool) (a b e : ℕ) → a ≤ b → b ≤ e → passing p a e ≡ passing p a b ++ passing p b e
passing_split p a b e low high = passing_split_from p b a b e (omega arith) low high
