-- What is made of members by their numbers, one member after another.
use Rattle.std.proofs.Common.{◌≡◌, ℕ, ◌+◌, ◌<◌, Bool, true, false, cond, List, [], ◌∷◌, ◌++◌, map, length, take, get_or, Option, Some, refl, sym, ap, ◌∙◌, arith}
use Rattle.std.specs.Prelude.{filter}
use Rattle.std.specs.List.{cons_option, enumerate_from, filter_map, find}
use Rattle.std.specs.Option.{option_map}
use Rattle.std.proofs.lemmas.List.{length-take-le, map-append, map_push, take_more}
use Rattle.std.proofs.lemmas.List.Elements.{filter_map-append}

pub enumerate_push : {A : Type 0} (n : ℕ) (xs : List A) (x : A) (k : ℕ) → n + length xs ≡ k
    → enumerate_from n (xs ++ x ∷ []) ≡ enumerate_from n xs ++ (k, x) ∷ []
enumerate_push {A} n [] x k sum = let at : n ≡ k = omega (arith, sum) in ap (λ (m : ℕ). let p : ℕ × A = (m, x) in p ∷ []) at
enumerate_push {A} n (y ∷ xs) x k sum = ap (λ rest. let p : ℕ × A = (n, y) in p ∷ rest) (enumerate_push (n + 1) xs x k (omega (arith, sum)))

pub enumerate_more : {A : Type 0} (n : ℕ) (xs : List A) (i : ℕ) (x d : A) (k : ℕ) → i < length xs → x ≡ get_or xs i d → n + i ≡ k
    → enumerate_from n (take (i + 1) xs) ≡ enumerate_from n (take i xs) ++ (k, x) ∷ []
enumerate_more {A} n xs i x d k within at sum =
    let long : length (take i xs) ≡ i = length-take-le i xs (omega arith) in
    ap (enumerate_from n) (take_more xs i d within ∙ ap (λ y. take i xs ++ y ∷ []) (sym at))
    ∙ enumerate_push n (take i xs) x k (omega (arith, long, sum))

-- what is made of each
pub numbered_more : {A B : Type 0} (made : ℕ × A → B) (n : ℕ) (xs : List A) (i : ℕ) (x d : A) (k : ℕ) → i < length xs → x ≡ get_or xs i d → n + i ≡ k
    → map made (enumerate_from n (take (i + 1) xs)) ≡ map made (enumerate_from n (take i xs)) ++ made (k, x) ∷ []
numbered_more made n xs i x d k within at sum =
    ap (map made) (enumerate_more n xs i x d k within at sum) ∙ map-append made (enumerate_from n (take i xs)) ((k, x) ∷ [])

-- what is made of each that passes
pub filter_push : {A : Type 0} (test : A → Bool) (xs : List A) (x : A) → filter test (xs ++ x ∷ []) ≡ filter test xs ++ cond (test x) (x ∷ []) []
filter_push test [] x = refl
filter_push test (y ∷ xs) x = ap (λ rest. cond (test y) (y ∷ rest) rest) (filter_push test xs x) ∙ moved (test y)
  where
    moved : (b : Bool) → cond b (y ∷ (filter test xs ++ cond (test x) (x ∷ []) [])) (filter test xs ++ cond (test x) (x ∷ []) [])
        ≡ cond b (y ∷ filter test xs) (filter test xs) ++ cond (test x) (x ∷ []) []
    moved true = refl
    moved false = refl

-- what is made of each, without a number
pub mapped_more : {A B : Type 0} (made : A → B) (xs : List A) (i : ℕ) (x : A) (y : B) (old new : List B) → i < length xs → x ≡ get_or xs i x → y ≡ made x
    → old ≡ map made (take i xs) → new ≡ old ++ y ∷ [] → new ≡ map made (take (i + 1) xs)
mapped_more made xs i x y old new within at is held put =
    put ∙ ap (λ ys. ys ++ y ∷ []) held ∙ ap (λ z. map made (take i xs) ++ z ∷ []) (is ∙ ap made at)
    ∙ sym (ap (map made) (take_more xs i x within) ∙ map_push made (take i xs) (get_or xs i x))

-- what is made of some
pub some_more : {A B : Type 0} (made : A → Option B) (xs : List A) (i : ℕ) (d : A) (found : Option B) (old new : List B) → i < length xs → found ≡ made (get_or xs i d)
    → old ≡ filter_map made (take i xs) → new ≡ old ++ cons_option found [] → new ≡ filter_map made (take (i + 1) xs)
some_more made xs i d found old new within is held put =
    put ∙ ap (λ ys. ys ++ cons_option found []) held ∙ ap (λ o. filter_map made (take i xs) ++ cons_option o []) is
    ∙ sym (ap (filter_map made) (take_more xs i d within) ∙ filter_map-append made (take i xs) (get_or xs i d ∷ []))

-- what is found is found of what is made of each
pub find_made : {A B : Type 0} (test : B → Bool) (made : A → B) (xs : List A) → option_map made (find (λ x. test (made x)) xs) ≡ find test (map made xs)
find_made test made [] = refl
find_made test made (x ∷ xs) = here (test (made x)) (find_made test made xs)
  where
    here : (b : Bool) → option_map made (find (λ y. test (made y)) xs) ≡ find test (map made xs)
        → option_map made (cond b (Some x) (find (λ y. test (made y)) xs)) ≡ cond b (Some (made x)) (find test (map made xs))
    here true same = refl
    here false same = same
