use Rattle.std.proofs.Common.{◌≡◌, ℕ, ◌+◌, ◌<◌, ◌≤◌, List, [], ◌∷◌, ◌++◌, length, take, drop, sum_by, slice_get, slice_range, Some, sym, ◌∙◌, ap, append-nil, append_assoc, arith, length-append, refl, ◌-◌}
use Rattle.std.specs.List.{concat}
use Rattle.std.proofs.Math.Seq.{take-append-add, drop-append-add}
use Rattle.std.proofs.lemmas.List.{take_at, drop_at, take-append-le, drop-append-le, take-append-drop, take_rest, drop_more, drop-drop}
use Rattle.std.proofs.lemmas.List.Concat.{concat_is, length-flat_map}
use Rattle.std.proofs.lemmas.List.Folds.{concat-append}
use Rattle.std.proofs.lemmas.Option.{slice_get_within, get_or_from_slice_get}
use Rattle.piece_text.specs.Pieces.{AreFull, IsSplit}
use Rattle.piece_text.proofs.Full.{full_single, full_append, full_take, full_drop}
use Rattle.piece_text.proofs.Ranges.{range_len}

-- the weight of all pieces is how many octets they have
pub total_is : (xs : List (List ℕ)) → sum_by length xs ≡ length (concat xs)
total_is xs = sym (ap length (concat_is xs) ∙ length-flat_map (λ x. x) xs)

-- the octets of both
pub concat_append : (xs ys : List (List ℕ)) → concat (xs ++ ys) ≡ concat xs ++ concat ys
concat_append xs ys = concat-append xs ys

-- what is left after two cuts
pub drop_twice : {X : Type 0} (xs : List X) (m n : ℕ) → drop m (drop n xs) ≡ drop (n + m) xs
drop_twice xs m n = drop-drop m n xs

-- the octets before a place between two pieces, and those after it
pub parts_between : (xs : List (List ℕ)) (k : ℕ) → concat xs ≡ concat (take k xs) ++ concat (drop k xs)
parts_between xs k = sym (ap concat (take-append-drop k xs)) ∙ concat-append (take k xs) (drop k xs)

-- the octets before a piece, its own, and those after it
pub parts_at : (xs : List (List ℕ)) (k : ℕ) (x : List ℕ) → slice_get xs k ≡ Some x → concat xs ≡ concat (take k xs) ++ (x ++ concat (drop (k + 1) xs))
parts_at xs k x is =
    let rest : drop k xs ≡ x ∷ drop (k + 1) xs = rw (get_or_from_slice_get xs k x [] is) at (drop_more xs k [] (slice_get_within xs k x is)) in
    parts_between xs k ∙ ap (λ ys. concat (take k xs) ++ concat ys) rest

-- cut between two pieces
pub split_between : (xs : List (List ℕ)) (k at : ℕ) → length (concat (take k xs)) ≡ at → AreFull xs → IsSplit xs at (take k xs) (drop k xs)
split_between xs k at here full = record {
  front_octets = sym (ap (λ zs. take at zs) (parts_between xs k) ∙ take_at (concat (take k xs)) (concat (drop k xs)) at here);
  back_octets = sym (ap (λ zs. drop at zs) (parts_between xs k) ∙ drop_at (concat (take k xs)) (concat (drop k xs)) at here);
  full_front = full_take k xs full;
  full_back = full_drop k xs full;
}

-- the octets from one of a piece's octets on
pub drop_inside : (xs : List (List ℕ)) (k : ℕ) (x : List ℕ) (i at : ℕ) → slice_get xs k ≡ Some x → length (concat (take k xs)) + i ≡ at → i ≤ length x → drop at (concat xs) ≡ slice_range x i (length x) ++ concat (drop (k + 1) xs)
drop_inside xs k x i at is here within =
    let before = concat (take k xs) in
    let after = concat (drop (k + 1) xs) in
    ap (λ n. drop n (concat xs)) (sym here) ∙ ap (λ zs. drop (length before + i) zs) (parts_at xs k x is) ∙ drop-append-add before (x ++ after) i ∙ drop-append-le i x after within ∙ ap (λ zs. zs ++ after) (sym (take_rest x i))

-- cut within a piece
pub split_inside : (xs : List (List ℕ)) (k : ℕ) (x : List ℕ) (i : ℕ) → slice_get xs k ≡ Some x → 0 < i → i < length x → AreFull xs → IsSplit xs (length (concat (take k xs)) + i) (take k xs ++ slice_range x 0 i ∷ []) (slice_range x i (length x) ∷ [] ++ drop (k + 1) xs)
split_inside xs k x i is some within full =
    let before = concat (take k xs) in
    let after = concat (drop (k + 1) xs) in
    let all : i - 0 ≡ i = omega arith in
    let head : take (length before + i) (concat xs) ≡ before ++ take i x =
    ap (λ zs. take (length before + i) zs) (parts_at xs k x is) ∙ take-append-add before (x ++ after) i ∙ ap (λ zs. before ++ zs) (take-append-le i x after (omega arith)) in
    record {
      front_octets = concat-append (take k xs) (slice_range x 0 i ∷ []) ∙ ap (λ zs. before ++ zs) (append-nil (slice_range x 0 i) ∙ ap (λ n. take n x) all) ∙ sym head;
      back_octets = sym (drop_inside xs k x i _ is refl (omega arith));
      full_front = full_append (take k xs) (slice_range x 0 i ∷ []) (full_take k xs full) (full_single (slice_range x 0 i) (rw (range_len x 0 i (omega arith)) (omega arith)));
      full_back = full_append (slice_range x i (length x) ∷ []) (drop (k + 1) xs) (full_single (slice_range x i (length x)) (rw (range_len x i (length x) (omega arith)) (omega arith))) (full_drop (k + 1) xs full);
    }

-- the rest of a piece is a range of all octets
pub rest_is : (xs : List (List ℕ)) (k : ℕ) (x : List ℕ) (i at : ℕ) (r : List ℕ) → slice_get xs k ≡ Some x → length (concat (take k xs)) + i ≡ at → i ≤ length x → r ≡ slice_range x i (length x) → r ≡ slice_range (concat xs) at (at + length r)
rest_is xs k x i at r is here within rest =
    let count : at + length r - at ≡ length r = omega arith in
    rest ∙ sym (rw (count, drop_inside xs k x i at is here within) (take_at (slice_range x i (length x)) (concat (drop (k + 1) xs)) (length r) (ap length (sym rest))))

-- and it is within them
pub rest_within : (xs : List (List ℕ)) (k : ℕ) (x : List ℕ) (i at : ℕ) (r : List ℕ) → slice_get xs k ≡ Some x → length (concat (take k xs)) + i ≡ at → i ≤ length x → r ≡ slice_range x i (length x) → at + length r ≤ length (concat xs)
rest_within xs k x i at r is here within rest =
    let count : length r ≡ length x - i = ap length rest ∙ range_len x i (length x) (omega arith) in
    let all : length (concat xs) ≡ length (concat (take k xs)) + length (x ++ concat (drop (k + 1) xs)) = ap length (parts_at xs k x is) ∙ length-append (concat (take k xs)) (x ++ concat (drop (k + 1) xs)) in
    omega (arith, count, all, length-append x (concat (drop (k + 1) xs)))

-- how many octets both parts of a cut have
pub halves_count : (xs front back : List (List ℕ)) (k : ℕ) → front ≡ take k xs → back ≡ drop k xs → length (concat xs) ≡ length (concat front) + length (concat back)
halves_count xs front back k in_front behind = rw (in_front, behind) (ap length (parts_between xs k) ∙ length-append (concat (take k xs)) (concat (drop k xs)))

-- the octets of two cut sequences with a run between them that has the ends and what was put
pub weld_is : (xs ys front last first back run : List (List ℕ)) (put : List ℕ) (j k : ℕ) → front ≡ take j xs → last ≡ drop j xs → first ≡ take k ys → back ≡ drop k ys → concat run ≡ concat last ++ put ++ concat first → concat front ++ concat run ++ concat back ≡ concat xs ++ put ++ concat ys
weld_is xs ys front last first back run put j k in_front is_last is_first behind is_run =
    let all_front : concat xs ≡ concat front ++ concat last = rw (in_front, is_last) (parts_between xs j) in
    let all_back : concat ys ≡ concat first ++ concat back = rw (is_first, behind) (parts_between ys k) in
    rw (is_run, all_front, all_back) (simp append_assoc)

-- cut within a piece, as it is made: the pieces before it and its head, its tail and the pieces after it
pub split_made : (xs front head tail back all_front all_back : List (List ℕ)) (x y first rest : List ℕ) (k i : ℕ) → front ≡ take k xs → back ≡ drop (k + 1) xs → first ≡ slice_range x 0 i → y ≡ x → rest ≡ slice_range x i (length y) → head ≡ first ∷ [] → tail ≡ rest ∷ [] → all_front ≡ front ++ head → all_back ≡ tail ++ back → slice_get xs k ≡ Some x → 0 < i → i < length x → AreFull xs → IsSplit xs (length (concat (take k xs)) + i) all_front all_back
split_made xs front head tail back all_front all_back x y first rest k i f b p e q h t af ab is some within full =
    rw (af, ab, h, t, p, q, e, f, b) (split_inside xs k x i is some within full)
