-- Faults of each member, and lists that are changed member by member.
use Rattle.std.proofs.Common.{◌≡◌, ℕ, ◌+◌, ◌<◌, inl, inr, List, [], ◌∷◌, ◌++◌, length, get_or, set, take, drop, map, sym, ap, ◌∙◌, refl, arith}
use Rattle.std.specs.List.{flat_map}
use Rattle.std.proofs.lemmas.List.{drop_more, take_more, map_push, append_assoc, get_or_at, set_at, length-map, length-take-le, drop_all, take_all, append-nil}
use Rattle.std.proofs.lemmas.List.Concat.{flat_map-append}
use Rattle.dir_compile.proofs.Faults.{nil-left, nil-right, nil-both, split_at}
use Rattle.dir_compile.proofs.AscendingLemmas.{Has, HasSame}

-- no fault of a list is none of each member
pub none-at : {A B : Type 0} (f : A → List B) (xs : List A) → flat_map f xs ≡ [] → (x : A) → Has xs x → f x ≡ []
none-at f [] e x h = absurd h
none-at f (y ∷ ys) e x (inl k) = ap f k ∙ nil-left (f y) (flat_map f ys) e
none-at f (y ∷ ys) e x (inr h) = none-at f ys (nil-right (f y) (flat_map f ys) e) x h

pub none-all : {A B : Type 0} (f : A → List B) (xs : List A) → ((x : A) → Has xs x → f x ≡ []) → flat_map f xs ≡ []
none-all f [] h = refl
none-all f (x ∷ xs) h = nil-both (f x) (flat_map f xs) (h x (inl refl)) (none-all f xs (λ y k. h y (inr k)))

-- lists with the same members have no fault together
pub none-same : {A B : Type 0} (f : A → List B) (xs ys : List A) → HasSame xs ys → flat_map f xs ≡ [] → flat_map f ys ≡ []
none-same f xs ys same e = none-all f ys (λ x h. none-at f xs e x (same.back x h))

pub none-place : {A B : Type 0} (f : A → List B) (xs : List A) (i : ℕ) (d : A) → i < length xs → flat_map f xs ≡ [] → f (get_or xs i d) ≡ []
none-place f xs i d lt e =
    let parts = ap (flat_map f) (split_at xs i d lt) ∙ flat_map-append f (take i xs) (get_or xs i d ∷ drop (i + 1) xs) in
    nil-left (f (get_or xs i d)) _ (nil-right (flat_map f (take i xs)) _ (sym parts ∙ e))

-- a list whose members before the place i are mapped
module _ {A : Type 0} (f : A → A) (xs now : List A) (i : ℕ) (d : A) (lt : i < length xs) (so_far : now ≡ map f (take i xs) ++ drop i xs) where
  front-length : length (map f (take i xs)) ≡ i
  front-length = length-map (take i xs) f ∙ length-take-le i xs (omega arith)

  parts : now ≡ map f (take i xs) ++ get_or xs i d ∷ drop (i + 1) xs
  parts = so_far ∙ ap (λ l. map f (take i xs) ++ l) (drop_more xs i d lt)

  pub mapped-get : get_or now i d ≡ get_or xs i d
  mapped-get = ap (λ l. get_or l i d) parts ∙ get_or_at (map f (take i xs)) (get_or xs i d) (drop (i + 1) xs) d i front-length

  pub mapped-set : set now i (f (get_or xs i d)) ≡ map f (take (i + 1) xs) ++ drop (i + 1) xs
  mapped-set =
      ap (λ l. set l i (f (get_or xs i d))) parts ∙ set_at (map f (take i xs)) (get_or xs i d) (drop (i + 1) xs) (f (get_or xs i d)) i front-length
      ∙ sym (ap (λ l. map f l ++ drop (i + 1) xs) (take_more xs i d lt) ∙ ap (λ l. l ++ drop (i + 1) xs) (map_push f (take i xs) (get_or xs i d)) ∙ append_assoc (map f (take i xs)) (f (get_or xs i d) ∷ []) (drop (i + 1) xs))

-- a list that was written back whole
pub written-back : {A : Type 0} (xs ys : List A) (n : ℕ) → length xs ≡ n → length ys ≡ n → take n (ys ++ drop (length ys) xs) ≡ ys
written-back xs ys n p q =
    ap (λ l. take n (ys ++ l)) (drop_all (length ys) xs (omega arith)) ∙ ap (take n) (append-nil ys) ∙ take_all n ys (omega arith)
