-- One placed entry more at the end of a list of placements.
use Rattle.std.proofs.Common.{◌≡◌, ℕ, ◌+◌, ◌-◌, Bool, true, false, cond, List, [], ◌∷◌, ◌++◌, Option, Some, None, length, drop, refl, sym, ap, subst, ◌∙◌, inl, inr, arith}
use Rattle.std.specs.Prelude.{reverse, count_by, not, slice_index}
use Rattle.std.specs.List.{after_last, suffix_len, prefix_len, filter_map}
use Rattle.std.proofs.lemmas.Bool.{cases_Bool}
use Rattle.std.proofs.lemmas.List.{append-nil, reverse-append, reverse-reverse, drop-append-le, length-append}
use Rattle.std.proofs.lemmas.List.Elements.{filter_map-append}
use Rattle.edi_tables.specs.Placement.{from_last, last_placed}
use Rattle.edi_tables.proofs.Counting.{count_push, suffix_push}
use Rattle.edi_tables.proofs.Placements.{last_index}

-- lists by their last member
from_reversed : {A : Type 0} (P : List A → Type 0) → P [] → ((xs : List A) (x : A) → P xs → P (xs ++ x ∷ [])) → (ys : List A) → P (reverse ys)
from_reversed P none more [] = none
from_reversed P none more (y ∷ ys) = subst P (sym (reverse-append (y ∷ []) ys)) (more (reverse ys) y (from_reversed P none more ys))

pub by_last : {A : Type 0} (P : List A → Type 0) → P [] → ((xs : List A) (x : A) → P xs → P (xs ++ x ∷ [])) → (xs : List A) → P xs
by_last P none more xs = subst P (reverse-reverse xs) (from_reversed P none more (reverse xs))

abbrev passed : (Option ℕ → Bool) → List (Option ℕ) → ℕ
passed q xs = suffix_len (λ y. not (q y)) xs

none_passed : (q : Option ℕ → Bool) (xs : List (Option ℕ)) (x : Option ℕ) → q x ≡ true → passed q (xs ++ x ∷ []) ≡ 0
none_passed q xs x passes =
    ap (prefix_len (λ y. not (q y))) (reverse-append xs (x ∷ [])) ∙ ap (λ b. cond b (1 + prefix_len (λ y. not (q y)) (reverse xs)) 0) (ap not passes)

one_longer : (xs : List (Option ℕ)) (x : Option ℕ) → length (xs ++ x ∷ []) ≡ length xs + 1
one_longer xs x = length-append xs (x ∷ [])

drop_all : {A : Type 0} (xs : List A) → drop (length xs) xs ≡ []
drop_all [] = refl
drop_all (x ∷ xs) = drop_all xs

-- after one that passes nothing is left, and from it on it alone
pub after_yes : (q : Option ℕ → Bool) (xs : List (Option ℕ)) (x : Option ℕ) → q x ≡ true → after_last q (xs ++ x ∷ []) ≡ []
after_yes q xs x passes =
    let whole : length (xs ++ x ∷ []) - passed q (xs ++ x ∷ []) ≡ length (xs ++ x ∷ []) = omega (arith, none_passed q xs x passes) in
    ap (λ (n : ℕ). drop n (xs ++ x ∷ [])) whole ∙ drop_all (xs ++ x ∷ [])

pub since_yes : (q : Option ℕ → Bool) (xs : List (Option ℕ)) (x : Option ℕ) → q x ≡ true → from_last q (xs ++ x ∷ []) ≡ x ∷ []
since_yes q xs x passes =
    let last : length (xs ++ x ∷ []) - passed q (xs ++ x ∷ []) - 1 ≡ length xs = omega (arith, none_passed q xs x passes, one_longer xs x) in
    ap (λ (n : ℕ). drop n (xs ++ x ∷ [])) last ∙ drop-append-le (length xs) xs (x ∷ []) (omega arith) ∙ ap (λ front. front ++ x ∷ []) (drop_all xs)

-- one that does not pass stays
pub since_no : (q : Option ℕ → Bool) (xs : List (Option ℕ)) (x : Option ℕ) → q x ≡ false → from_last q (xs ++ x ∷ []) ≡ from_last q xs ++ x ∷ []
since_no q xs x fails =
    let suffix = suffix_push (λ y. not (q y)) xs x (ap not fails) in
    let long = one_longer xs x in
    let from : length (xs ++ x ∷ []) - passed q (xs ++ x ∷ []) - 1 ≡ length xs - passed q xs - 1 = omega (arith, suffix, long) in
    ap (λ (n : ℕ). drop n (xs ++ x ∷ [])) from ∙ drop-append-le (length xs - passed q xs - 1) xs (x ∷ []) (omega arith)

pub after_no : (q : Option ℕ → Bool) (xs : List (Option ℕ)) (x : Option ℕ) → q x ≡ false → after_last q (xs ++ x ∷ []) ≡ after_last q xs ++ x ∷ []
after_no q xs x fails =
    let suffix = suffix_push (λ y. not (q y)) xs x (ap not fails) in
    let long = one_longer xs x in
    let from : length (xs ++ x ∷ []) - passed q (xs ++ x ∷ []) ≡ length xs - passed q xs = omega (arith, suffix, long) in
    ap (λ (n : ℕ). drop n (xs ++ x ∷ [])) from ∙ drop-append-le (length xs - passed q xs) xs (x ∷ []) (omega arith)

-- since the last that passes and after it, the same count of what does not pass
pub since_after : (p q : Option ℕ → Bool) → ((x : Option ℕ) → q x ≡ true → p x ≡ false) → (xs : List (Option ℕ)) → count_by p (from_last q xs) ≡ count_by p (after_last q xs)
since_after p q apart xs =
    by_last (λ ys. count_by p (from_last q ys) ≡ count_by p (after_last q ys)) refl
    (λ ys x same. elim (cases_Bool (q x)) [
      | inl passes ↦ ap (count_by p) (since_yes q ys x passes) ∙ count_push p [] x ∙ ap (λ b. 0 + cond b 1 0) (apart x passes) ∙ sym (ap (count_by p) (after_yes q ys x passes))
      | inr fails ↦ ap (count_by p) (since_no q ys x fails) ∙ count_push p (from_last q ys) x ∙ ap (λ (n : ℕ). n + cond (p x) 1 0) same
          ∙ sym (ap (count_by p) (after_no q ys x fails) ∙ count_push p (after_last q ys) x)
    ]) xs

-- the entry placed last
pub last_push : (placed : List (Option ℕ)) (c : ℕ) → last_placed (placed ++ Some c ∷ []) ≡ c
last_push placed c =
    ap (λ (xs : List ℕ). slice_index xs (length xs - 1)) (filter_map-append (λ p. p) placed (Some c ∷ [])) ∙ last_index (filter_map (λ p. p) placed) c

pub last_none : (placed : List (Option ℕ)) → last_placed (placed ++ None ∷ []) ≡ last_placed placed
last_none placed =
    ap (λ (xs : List ℕ). slice_index xs (length xs - 1)) (filter_map-append (λ p. p) placed (None ∷ []) ∙ append-nil (filter_map (λ p. p) placed))
