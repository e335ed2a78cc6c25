-- Cells, fields and indentation, step by step.
use Rattle.std.proofs.Common.{◌≡◌, ℕ, zero, suc, ◌+◌, ◌-◌, ◌<◌, ◌≤◌, Bool, true, false, not, ◌==◌, if◌then◌else◌, List, [], ◌∷◌, ◌++◌, length, get_or, take, drop, replicate, refl, sym, ap, ◌∙◌, ⊎_elim, arith, one-add, length-take-le, take_all, length-drop}
use Rattle.std.specs.List.{slice_split, prefix_len, position_or_len}
use Rattle.std.proofs.lemmas.Bool.{cases_Bool, cases_lt}
use Rattle.std.proofs.lemmas.List.{drop_more, drop_all}
use Rattle.std.proofs.lemmas.List.Elements.{All-from_get_or}
use Rattle.std.proofs.lemmas.List.Sums.{prefix_len-le-length, fails_before_first, passes_at_first}
use Rattle.std.proofs.lemmas.List.Splits.{slice_split_first, slice_split_none}
use Rattle.edi_octets.specs.Lines.{is_space, cells_of}
use Rattle.edi_tables.specs.Filled.{is_filled}
use Rattle.edi_octets.specs.Profile.{is_mark, is_marked, marks_of, fields_of, indentation_of}

pub is_filled-true : {A : Type 0} (xs : List A) → 0 < length xs → is_filled xs ≡ true
is_filled-true [] some = absurd (omega arith)
is_filled-true (x ∷ xs) some = refl

-- spaces in front are no cells
pub cells_of-skip : (xs : List ℕ) → cells_of xs ≡ cells_of (drop (prefix_len is_space xs) xs)
unfolding cells_of
cells_of-skip [] = refl
cells_of-skip (x ∷ xs) =
    ⊎_elim (λ (yes : is_space x ≡ true). rw (yes, one-add) (cells_of-skip xs)) (λ (no : is_space x ≡ false). rw (no, no) refl) (cases_Bool (is_space x))

-- what is after the longest front that passes doesn't begin with one that passes
pub prefix_len-behind : {A : Type 0} (p : A → Bool) (xs : List A) → prefix_len p (drop (prefix_len p xs) xs) ≡ 0
prefix_len-behind p [] = refl
prefix_len-behind p (x ∷ xs) =
    ⊎_elim (λ (yes : p x ≡ true). rw (yes, one-add) (prefix_len-behind p xs)) (λ (no : p x ≡ false). rw (no, no) refl) (cases_Bool (p x))

-- a list that neither begins with a space nor with another octet is empty
pub no_octet : (xs : List ℕ) → prefix_len is_space xs ≡ 0 → position_or_len is_space xs ≡ 0 → xs ≡ []
no_octet [] _ _ = refl
no_octet (x ∷ xs) front place =
    ⊎_elim
    (λ (yes : is_space x ≡ true). absurd (omega (arith, rw yes at front)))
    (λ (no : is_space x ≡ false). absurd (omega (arith, rw no at place)))
    (cases_Bool (is_space x))

-- a line that begins with a space, or is empty, has the cells of what is after that
cells_of-space : (x : ℕ) (xs : List ℕ) → is_space x ≡ true → cells_of (x ∷ xs) ≡ cells_of xs
unfolding cells_of
cells_of-space x xs space = rw space refl

pub cells_of-nil : cells_of [] ≡ []
unfolding cells_of
cells_of-nil = refl

cells_of-split : (xs part rest : List ℕ) → slice_split (λ x. x == 32) xs ≡ part ∷ slice_split (λ x. x == 32) rest → is_filled part ≡ true → cells_of xs ≡ part ∷ cells_of rest
unfolding cells_of
cells_of-split xs part rest parts filled = rw (parts, filled) refl

cells_of-whole : (xs : List ℕ) → slice_split (λ x. x == 32) xs ≡ xs ∷ [] → is_filled xs ≡ true → cells_of xs ≡ xs ∷ []
unfolding cells_of
cells_of-whole xs parts filled = rw (parts, filled) refl

-- a line that doesn't begin with a space begins with its first cell
pub cells_of-first : (xs : List ℕ) (k : ℕ) → k ≡ position_or_len is_space xs → 0 < k → cells_of xs ≡ take k xs ∷ cells_of (drop k xs)
cells_of-first xs k is some =
    let within : k ≤ length xs = rw is (prefix_len-le-length (λ x. not (is_space x)) xs) in
    let filled : is_filled (take k xs) ≡ true = is_filled-true (take k xs) (omega (arith, length-take-le k xs within)) in
    ⊎_elim
    (λ (lt : k < length xs).
    let behind : drop k xs ≡ get_or xs k 0 ∷ drop (k + 1) xs = drop_more xs k 0 lt in
    let space : is_space (get_or xs k 0) ≡ true = rw is (passes_at_first is_space xs 0 (rw (← is) lt)) in
    let parts : slice_split (λ x. x == 32) xs ≡ take k xs ∷ slice_split (λ x. x == 32) (drop (k + 1) xs) =
    rw is (slice_split_first is_space xs 0 (rw (← is) lt)) in
    cells_of-split xs (take k xs) (drop (k + 1) xs) parts filled ∙ ap (λ cells. take k xs ∷ cells) (sym (ap cells_of behind ∙ cells_of-space (get_or xs k 0) (drop (k + 1) xs) space)))
    (λ (ge : length xs ≤ k).
    let whole : take k xs ≡ xs = take_all k xs ge in
    let none : drop k xs ≡ [] = drop_all k xs ge in
    let parts : slice_split (λ x. x == 32) xs ≡ xs ∷ [] =
    slice_split_none is_space xs (All-from_get_or (λ x. is_space x ≡ false) xs 0 (λ i lt. fails_before_first is_space xs i 0 (omega arith))) in
    rw (whole, none) (cells_of-whole xs parts (rw whole at filled) ∙ ap (λ cells. xs ∷ cells) (sym cells_of-nil)))
    (cases_lt k (length xs))

-- marks in front, read as spaces, are no cells
cells_of-replicate : (n : ℕ) (xs : List ℕ) → cells_of (replicate n 32 ++ xs) ≡ cells_of xs
cells_of-replicate zero xs = refl
cells_of-replicate (suc n) xs = cells_of-space 32 (replicate n 32 ++ xs) refl ∙ cells_of-replicate n xs

-- they count as spaces
prefix_len-replicate : (n : ℕ) (xs : List ℕ) → prefix_len is_space (replicate n 32 ++ xs) ≡ n + prefix_len is_space xs
prefix_len-replicate zero xs = omega arith
prefix_len-replicate (suc n) xs = omega (arith, prefix_len-replicate n xs)

-- the line after the marks that are read as spaces
abbrev pub behind_marks : List ℕ → List ℕ
behind_marks line = if is_marked line then drop (marks_of line) line else line

pub fields_of-behind : (line : List ℕ) → fields_of line ≡ cells_of (behind_marks line)
unfolding fields_of
fields_of-behind line =
    ⊎_elim
    (λ (read : is_marked line ≡ true). rw read (cells_of-replicate (marks_of line) (drop (marks_of line) line)))
    (λ (kept : is_marked line ≡ false). rw kept refl)
    (cases_Bool (is_marked line))

pub indentation_of-behind : (line : List ℕ) → indentation_of line ≡ (length line - length (behind_marks line)) + prefix_len is_space (behind_marks line)
unfolding indentation_of
indentation_of-behind line =
    let marks = marks_of line in
    let within : marks ≤ length line = prefix_len-le-length is_mark line in
    ⊎_elim
    (λ (read : is_marked line ≡ true). rw read (omega (arith, prefix_len-replicate marks (drop marks line), length-drop marks line)))
    (λ (kept : is_marked line ≡ false). rw kept (omega arith))
    (cases_Bool (is_marked line))
