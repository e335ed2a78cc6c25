use Rattle.std.proofs.Common.{ℕ, ◌<◌, ◌≤◌, List, [], ◌∷◌, ◌++◌, length, take, drop, arith, length-append}
use Rattle.std.specs.List.{concat}
use Rattle.std.proofs.lemmas.List.Elements.{All-nil, All-cons, All-head, All-tail, All-append, All-take, All-drop}
use Rattle.piece_text.specs.Pieces.{AreFull}

-- no piece at all
pub full_nil : AreFull []
full_nil = record { each = All-nil (λ piece. 0 < length piece) }

-- one piece
pub full_single : (x : List ℕ) → 0 < length x → AreFull (x ∷ [])
full_single x some = record { each = All-cons (λ piece. 0 < length piece) x [] some full_nil.each }

-- the pieces of both
pub full_append : (xs ys : List (List ℕ)) → AreFull xs → AreFull ys → AreFull (xs ++ ys)
full_append xs ys full_front full_back = record { each = All-append (λ piece. 0 < length piece) xs ys full_front.each full_back.each }

-- the first pieces
pub full_take : (n : ℕ) (xs : List (List ℕ)) → AreFull xs → AreFull (take n xs)
full_take n xs full = record { each = All-take (λ piece. 0 < length piece) n xs full.each }

-- the others
pub full_drop : (n : ℕ) (xs : List (List ℕ)) → AreFull xs → AreFull (drop n xs)
full_drop n xs full = record { each = All-drop (λ piece. 0 < length piece) n xs full.each }

-- there are no more pieces than octets
pub count_le : (xs : List (List ℕ)) → AreFull xs → length xs ≤ length (concat xs)
count_le [] full = omega arith
count_le (x ∷ xs) full =
    let some : 0 < length x = All-head (λ piece. 0 < length piece) x xs full.each in
    let others : length xs ≤ length (concat xs) = count_le xs record { each = All-tail (λ piece. 0 < length piece) x xs full.each } in
    omega (arith, some, others, length-append x (concat xs))
