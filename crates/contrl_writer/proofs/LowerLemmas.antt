-- Segments of which the first are put.
use Rattle.std.proofs.Common.{◌≡◌, ℕ, zero, suc, ◌+◌, ◌-◌, ◌<◌, ◌≤◌, Bool, true, false, cond, List, [], ◌∷◌, ◌++◌, length, get_or, map, take, drop, refl, sym, ap, ◌∙◌, arith, length-append}
use Rattle.std.specs.List.{filter}
use Rattle.std.proofs.lemmas.List.{append-nil, append_assoc, drop_all, drop_more}
use Rattle.contrl_writer.specs.declared.level.Levelled.{Levelled}
use Rattle.contrl_writer.specs.declared.lower.Lower.{Lower}
use Rattle.contrl_writer.specs.Lower.{with_segments}
use Rattle.contrl_segments.specs.Written.{Segment, contrl_text, segment_text}

pub take-nil : {X : Type 0} (n : ℕ) → take {A = X} n [] ≡ []
take-nil zero = refl
take-nil (suc n) = refl

pub take-append : {X : Type 0} (n : ℕ) (xs ys : List X) → take n (xs ++ ys) ≡ take n xs ++ take (n - length xs) ys
take-append {X = X} n [] ys = let none : n - 0 ≡ n = omega arith in sym (ap (λ (zs : List X). zs ++ take (n - 0) ys) (take-nil n) ∙ ap (λ (k : ℕ). take k ys) none)
take-append {X = X} zero (x ∷ xs) ys = let none : 0 - suc (length xs) ≡ 0 = omega arith in sym (ap (λ (k : ℕ). take k ys) none)
take-append {X = X} (suc n) (x ∷ xs) ys =
    let less : n - length xs ≡ suc n - suc (length xs) = omega arith in
    ap (λ (zs : List X). x ∷ zs) (take-append n xs ys ∙ ap (λ (k : ℕ). take n xs ++ take k ys) less)

pub contrl_text-append : (xs ys : List Segment) → contrl_text (xs ++ ys) ≡ contrl_text xs ++ contrl_text ys
contrl_text-append [] ys = refl
contrl_text-append (x ∷ xs) ys = ap (λ zs. segment_text x ++ zs) (contrl_text-append xs ys) ∙ sym (append_assoc (segment_text x) (contrl_text xs) (contrl_text ys))

pub with_segments-nil : (w : Lower) → with_segments w [] ≡ w
with_segments-nil w =
    let same : w.left - 0 ≡ w.left = omega arith in
    ap (λ (xs : List Segment). record { text = w.text ++ contrl_text xs; left = w.left - 0 }) (take-nil w.left)
    ∙ λ i. record { text = append-nil w.text i; left = same i }

-- segments, and more after them
pub with_segments-append : (w : Lower) (xs ys : List Segment) → with_segments (with_segments w xs) ys ≡ with_segments w (xs ++ ys)
with_segments-append w xs ys =
    let all : length (xs ++ ys) ≡ length xs + length ys = length-append xs ys in
    let left : w.left - length xs - length ys ≡ w.left - length (xs ++ ys) = omega arith in
    let text : w.text ++ contrl_text (take w.left xs) ++ contrl_text (take (w.left - length xs) ys) ≡ w.text ++ contrl_text (take w.left (xs ++ ys)) =
    append_assoc w.text (contrl_text (take w.left xs)) (contrl_text (take (w.left - length xs) ys))
    ∙ ap (λ zs. w.text ++ zs) (sym (contrl_text-append (take w.left xs) (take (w.left - length xs) ys)) ∙ ap contrl_text (sym (take-append w.left xs ys))) in
    λ i. record { text = text i; left = left i }

-- some of which the first n are put, and then some of which as many are put as are left
pub taken-step : (w now : Lower) (n left : ℕ) (xs ys : List Segment) → now ≡ with_segments w (take n xs) → left ≡ n - length xs
    → with_segments now (take left ys) ≡ with_segments w (take n (xs ++ ys))
taken-step w now n left xs ys put rest =
    ap (λ (v : Lower). with_segments v (take left ys)) put
    ∙ (ap (λ (k : ℕ). with_segments (with_segments w (take n xs)) (take k ys)) rest
    ∙ (with_segments-append w (take n xs) (take (n - length xs) ys) ∙ ap (with_segments w) (sym (take-append n xs ys))))

-- the segments of those errors that pass a test
module _ (f : Levelled → Segment) (p : Levelled → Bool) where
  abbrev pub picked : List Levelled → List Segment
  picked errors = map f (filter p errors)

  picked-cond : (b : Bool) (x : Levelled) (xs : List Levelled) → map f (cond b (x ∷ xs) xs) ≡ map f (cond b (x ∷ []) []) ++ map f xs
  picked-cond true x xs = refl
  picked-cond false x xs = refl

  picked-cons : (x : Levelled) (xs : List Levelled) → picked (x ∷ xs) ≡ picked (x ∷ []) ++ picked xs
  picked-cons x xs = picked-cond (p x) x (filter p xs)

  -- the step of a loop over errors
  pub picked-step : (w now : Lower) (n left : ℕ) (xs : List Levelled) (i : ℕ) (d : Levelled) → i < length xs
      → now ≡ with_segments w (take n (picked (get_or xs i d ∷ []))) → left ≡ n - length (picked (get_or xs i d ∷ []))
      → with_segments now (take left (picked (drop (i + 1) xs))) ≡ with_segments w (take n (picked (drop i xs)))
  picked-step w now n left xs i d within put rest =
      taken-step w now n left (picked (get_or xs i d ∷ [])) (picked (drop (i + 1) xs)) put rest
      ∙ ap (λ (zs : List Segment). with_segments w (take n zs)) (sym (picked-cons (get_or xs i d) (drop (i + 1) xs)) ∙ ap picked (sym (drop_more xs i d within)))

  -- and its end
  pub picked-end : (w : Lower) (n : ℕ) (xs : List Levelled) (i : ℕ) → length xs ≤ i → with_segments w (take n (picked (drop i xs))) ≡ w
  picked-end w n xs i all =
      ap (λ (zs : List Levelled). with_segments w (take n (picked zs))) (drop_all i xs all) ∙ (ap (with_segments w) (take-nil n) ∙ with_segments-nil w)
