-- Lists without their empty end.
use Rattle.std.proofs.Common.{◌≡◌, ℕ, ◌+◌, ◌<◌, Bool, true, false, ◌&&◌, cond, List, [], ◌∷◌, ◌++◌, length, get_or, take, refl, sym, ap, ◌∙◌}
use Rattle.std.specs.Prelude.{map}
use Rattle.std.specs.List.{list_all}
use Rattle.std.proofs.Math.Bool.{and-true, and-false}
use Rattle.std.proofs.lemmas.List.{take_more}
use Rattle.std.proofs.lemmas.List.Folds.{list_all-append, list_all-map}
use Rattle.contrl_segments.specs.Written.{trimmed}

module _ {X : Type 0} (p : X → Bool) where
  all-last : (xs : List X) (x : X) (b : Bool) → p x ≡ b → list_all p (xs ++ x ∷ []) ≡ (list_all p xs && b)
  all-last xs x b is = list_all-append p xs (x ∷ []) ∙ ap (λ (c : Bool). list_all p xs && c) (and-true (p x) ∙ is)

  -- an empty item at the end is left out
  pub trimmed-empty : (xs : List X) (x : X) → p x ≡ true → trimmed p (xs ++ x ∷ []) ≡ trimmed p xs
  trimmed-empty [] x empty = ap (λ (b : Bool). cond (b && true) [] (x ∷ [])) empty
  trimmed-empty (y ∷ ys) x empty =
      ap (λ (b : Bool). cond (p y && b) [] (y ∷ trimmed p (ys ++ x ∷ []))) (all-last ys x true empty ∙ and-true (list_all p ys))
      ∙ ap (λ (zs : List X). cond (p y && list_all p ys) [] (y ∷ zs)) (trimmed-empty ys x empty)

  -- and any other keeps all before it
  pub trimmed-full : (xs : List X) (x : X) → p x ≡ false → trimmed p (xs ++ x ∷ []) ≡ xs ++ x ∷ []
  trimmed-full [] x full = ap (λ (b : Bool). cond (b && true) [] (x ∷ [])) full
  trimmed-full (y ∷ ys) x full =
      ap (λ (b : Bool). cond (p y && b) [] (y ∷ trimmed p (ys ++ x ∷ []))) (all-last ys x false full ∙ and-false (list_all p ys))
      ∙ (ap (λ (b : Bool). cond b [] (y ∷ trimmed p (ys ++ x ∷ []))) (and-false (p y))
      ∙ ap (λ (zs : List X). y ∷ zs) (trimmed-full ys x full))

  -- the same in a loop that goes over the items
  pub kept-empty : (xs : List X) (i kept : ℕ) (d : X) → i < length xs → trimmed p (take i xs) ≡ take kept xs → p (get_or xs i d) ≡ true → trimmed p (take (i + 1) xs) ≡ take kept xs
  kept-empty xs i kept d within so_far empty = ap (trimmed p) (take_more xs i d within) ∙ (trimmed-empty (take i xs) (get_or xs i d) empty ∙ so_far)

  pub kept-full : (xs : List X) (i : ℕ) (d : X) → i < length xs → p (get_or xs i d) ≡ false → trimmed p (take (i + 1) xs) ≡ take (i + 1) xs
  kept-full xs i d within full =
      ap (trimmed p) (take_more xs i d within) ∙ (trimmed-full (take i xs) (get_or xs i d) full ∙ sym (take_more xs i d within))

-- items that aren't all empty keep those before them
pub trimmed-append : {X : Type 0} (p : X → Bool) (xs ys : List X) → list_all p ys ≡ false → trimmed p (xs ++ ys) ≡ xs ++ trimmed p ys
trimmed-append p [] ys some = refl
trimmed-append p (x ∷ xs) ys some =
    ap (λ (b : Bool). cond (p x && b) [] (x ∷ trimmed p (xs ++ ys))) (list_all-append p xs ys ∙ (ap (λ (b : Bool). list_all p xs && b) some ∙ and-false (list_all p xs)))
    ∙ (ap (λ (b : Bool). cond b [] (x ∷ trimmed p (xs ++ ys))) (and-false (p x)) ∙ ap (λ zs. x ∷ zs) (trimmed-append p xs ys some))

-- items that are seen through f
map-cond : {X Y : Type 0} (f : X → Y) (b : Bool) (x : X) (xs : List X) → map f (cond b [] (x ∷ xs)) ≡ cond b [] (f x ∷ map f xs)
map-cond f true x xs = refl
map-cond f false x xs = refl

pub trimmed-map : {X Y : Type 0} (f : X → Y) (p : Y → Bool) (xs : List X) → trimmed p (map f xs) ≡ map f (trimmed (λ x. p (f x)) xs)
trimmed-map f p [] = refl
trimmed-map {Y = Y} f p (x ∷ xs) =
    ap (λ (b : Bool). cond (p (f x) && b) [] (f x ∷ trimmed p (map f xs))) (list_all-map p f xs)
    ∙ (ap (λ (ys : List Y). cond (p (f x) && list_all (λ x. p (f x)) xs) [] (f x ∷ ys)) (trimmed-map f p xs)
    ∙ sym (map-cond f (p (f x) && list_all (λ x. p (f x)) xs) x (trimmed (λ x. p (f x)) xs)))
