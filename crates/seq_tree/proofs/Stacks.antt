use Rattle.std.proofs.Common.{◌≡◌, ℕ, ◌+◌, ◌-◌, ◌<◌, Option, Some, None, List, [], ◌∷◌, ◌++◌, length, IfSome, IfNone, refl, sym, append-nil, append_assoc, arith}
use Rattle.std.specs.Borrow.{Bor}
use Rattle.seq_tree.specs.Walk.{IsStack, pending_items}

-- a tree put last has its items first
pub pending_items-push : {T : Type 0} (xs : List (Option (Bor (List T × ℕ)))) (t : Bor (List T × ℕ)) → pending_items (xs ++ Some t ∷ []) ≡ t.now.0 ++ pending_items xs
pending_items-push [] t = sym (append-nil t.now.0)
pending_items-push (None ∷ xs) t = pending_items-push xs t
pending_items-push (Some u ∷ xs) t = rw (pending_items-push xs t, append_assoc) refl

-- a tree that is lower than the room left may be put last
pub IsStack-push : {T : Type 0} (n : ℕ) (xs : List (Option (Bor (List T × ℕ)))) (t : Bor (List T × ℕ)) → IsStack n xs → t.now.1 + length xs < n → IsStack n (xs ++ Some t ∷ [])
IsStack-push n [] t stack low = (omega arith, tt)
IsStack-push n (None ∷ xs) t stack low = stack
IsStack-push n (Some u ∷ xs) t stack low = (stack.0, IsStack-push (n - 1) xs t stack.1 (omega arith))

-- the trees before the last are a stack
pub IsStack-front : {T : Type 0} (n : ℕ) (xs : List (Option (Bor (List T × ℕ)))) (last : Option (Bor (List T × ℕ))) → IsStack n (xs ++ last ∷ []) → IsStack n xs
IsStack-front n [] last stack = tt
IsStack-front n (None ∷ xs) last stack = stack
IsStack-front n (Some u ∷ xs) last stack = (stack.0, IsStack-front (n - 1) xs last stack.1)

-- the last tree is lower than the room from its place on
pub IsStack-last : {T : Type 0} (n : ℕ) (xs : List (Option (Bor (List T × ℕ)))) (t : Bor (List T × ℕ)) → IsStack n (xs ++ Some t ∷ []) → t.now.1 + length xs < n
IsStack-last n [] t stack = omega (arith, stack.0)
IsStack-last n (None ∷ xs) t stack = absurd stack
IsStack-last n (Some u ∷ xs) t stack = omega (arith, IsStack-last (n - 1) xs t stack.1)

-- no place of a stack is without a tree
pub IsStack-no_gap : {T : Type 0} (n : ℕ) (xs : List (Option (Bor (List T × ℕ)))) → IsStack n (xs ++ None ∷ []) → ⊥
IsStack-no_gap n [] stack = stack
IsStack-no_gap n (None ∷ xs) stack = stack
IsStack-no_gap n (Some u ∷ xs) stack = IsStack-no_gap (n - 1) xs stack.1

-- the tree that was last has its items first
pub popped_items : {T : Type 0} (old new : List (Option (Bor (List T × ℕ)))) (x : Option (Bor (List T × ℕ))) → old ≡ new ++ x ∷ [] → IfSome x (λ t. pending_items old ≡ t.now.0 ++ pending_items new)
popped_items old new (Some t) e = rw e (pending_items-push new t)
popped_items old new None e = tt

-- the tree that was last is lower than the room from its place on
pub popped_room : {T : Type 0} (n : ℕ) (old new : List (Option (Bor (List T × ℕ)))) (x : Option (Bor (List T × ℕ))) → old ≡ new ++ x ∷ [] → IsStack n old → IfSome x (λ t. t.now.1 + length new < n)
popped_room n old new (Some t) e stack = IsStack-last n new t (rw e at stack)
popped_room n old new None e stack = tt

-- the last place of a stack has a tree
pub popped_tree : {T : Type 0} (n : ℕ) (old new : List (Option (Bor (List T × ℕ)))) (x : Option (Bor (List T × ℕ))) (P : Type 0) → old ≡ new ++ x ∷ [] → IsStack n old → IfNone x P
popped_tree n old new (Some t) P e stack = tt
popped_tree n old new None P e stack = absurd (IsStack-no_gap n new (rw e at stack))
