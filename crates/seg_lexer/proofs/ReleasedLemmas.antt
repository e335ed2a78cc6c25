-- Released octets, one place after another, and from another base.
use Rattle.std.proofs.Common.{◌≡◌, ℕ, zero, suc, ◌+◌, ◌-◌, ◌%◌, ◌<◌, ◌≤◌, Bool, true, false, not, ◌&&◌, cond, eqb, List, [], ◌∷◌, length, get_or, Option, refl, sym, ap, ◌∙◌, arith, add-zero}
use Rattle.std.specs.List.{suffix_len, prefix_len, between}
use Rattle.std.proofs.lemmas.List.{reverse-append}
use Rattle.std.proofs.lemmas.List.Edits.{between_more, between_none, length-between, get_or-between}
use Rattle.std.proofs.lemmas.Bool.Decides.{nat_tests}
use Rattle.std.proofs.lemmas.Grind.{same_number_lists}
use Rattle.seg_lexer.specs.Released.{is_release, run_before, is_released}

-- a part of a part is a part
pub between-between : (start end : ℕ) (text : List ℕ) (a i : ℕ) → a ≤ i → start + i ≤ end → end ≤ length text → between a i (between start end text) ≡ between (start + a) (start + i) text
between-between start end text a i low high within =
    let inner : length (between start end text) ≡ end - start = length-between text start end within in
    let left : length (between a i (between start end text)) ≡ i - a = length-between (between start end text) a i (omega arith) in
    let right : length (between (start + a) (start + i) text) ≡ (start + i) - (start + a) = length-between text (start + a) (start + i) (omega arith) in
    same_number_lists _ _ (omega arith) (λ k below.
    get_or-between (between start end text) a i k 0 (omega arith)
    ∙ (get_or-between text start end (a + k) 0 (omega arith)
    ∙ (ap (λ (j : ℕ). get_or text j 0) (omega arith) ∙ sym (get_or-between text (start + a) (start + i) k 0 (omega arith)))))

odd-suc : (n : ℕ) → eqb ((1 + n) % 2) 1 ≡ not (eqb (n % 2) 1)
odd-suc n = grind (arith, nat_tests)

odd-cond : (p : Bool) (n : ℕ) → eqb (cond p (1 + n) 0 % 2) 1 ≡ (p && not (eqb (n % 2) 1))
odd-cond true n = odd-suc n
odd-cond false n = refl

module _ (release : Option ℕ) (xs : List ℕ) (a : ℕ) where
  run_before-more : (i : ℕ) → a ≤ i → i < length xs → run_before release xs a (i + 1) ≡ cond (is_release release (get_or xs i 0)) (1 + run_before release xs a i) 0
  unfolding run_before
  run_before-more i low high =
      ap (λ (ys : List ℕ). suffix_len (is_release release) ys) (between_more xs a i 0 low high)
      ∙ ap (λ (ys : List ℕ). prefix_len (is_release release) ys) (reverse-append (between a i xs) (get_or xs i 0 ∷ []))

  -- no octet before it, so none releases it
  pub is_released-start : is_released release xs a a ≡ false
  unfolding is_released run_before
  is_released-start = ap (λ (ys : List ℕ). eqb (suffix_len (is_release release) ys % 2) 1) (between_none xs a)

  -- an octet is released exactly where the one before it is an unreleased release character
  pub is_released-more : (i : ℕ) → a ≤ i → i < length xs → is_released release xs a (i + 1) ≡ (is_release release (get_or xs i 0) && not (is_released release xs a i))
  unfolding is_released
  is_released-more i low high =
      ap (λ (n : ℕ). eqb (n % 2) 1) (run_before-more i low high)
      ∙ odd-cond (is_release release (get_or xs i 0)) (run_before release xs a i)

-- what comes before an unreleased place doesn't matter after it
pub is_released-from : (release : Option ℕ) (xs : List ℕ) (a b n : ℕ) → a ≤ b → b + n ≤ length xs → is_released release xs a b ≡ false → is_released release xs a (b + n) ≡ is_released release xs b (b + n)
is_released-from release xs a b zero low high free = rw add-zero (free ∙ sym (is_released-start release xs b))
is_released-from release xs a b (suc n) low high free =
    let e : b + suc n ≡ b + n + 1 = omega arith in
    let before = is_released-from release xs a b n low (omega arith) free in
    ap (is_released release xs a) e
    ∙ is_released-more release xs a (b + n) (omega arith) (omega arith)
    ∙ ap (λ (v : Bool). is_release release (get_or xs (b + n) 0) && not v) before
    ∙ sym (is_released-more release xs b (b + n) (omega arith) (omega arith))
    ∙ sym (ap (is_released release xs b) e)

-- an octet of a part is released where it is so in the whole
pub is_released-between : (release : Option ℕ) (start end : ℕ) (text : List ℕ) (a i : ℕ) → a ≤ i → start + i ≤ end → end ≤ length text → is_released release (between start end text) a i ≡ is_released release text (start + a) (start + i)
unfolding is_released run_before
is_released-between release start end text a i low high within =
    ap (λ (ys : List ℕ). eqb (suffix_len (is_release release) ys % 2) 1) (between-between start end text a i low high within)
