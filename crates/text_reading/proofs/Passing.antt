-- A walk over the segments of a text that gathers something of each: one segment further.
use Rattle.std.proofs.Common.{◌≡◌, List, [], ◌∷◌, ◌++◌, Option, Some, None, sym, ap, ◌∙◌, subst}
use Rattle.std.specs.Prelude.{map, All}
use Rattle.std.specs.List.{flat_map, filter_map, cons_option}
use Rattle.std.proofs.lemmas.List.{append_assoc, append-nil}
use Rattle.std.proofs.lemmas.List.Elements.{All-head, All-tail}

module _ {A : Type 0} (left : List A) (x : A) (rest : List A) (is : left ≡ x ∷ rest) where
  pub rest_all : (P : A → Type 0) → All P left → All P rest
  rest_all P all = All-tail P x rest (subst (All P) is all)

  pub first_all : (P : A → Type 0) → All P left → P x
  first_all P all = All-head P x rest (subst (All P) is all)

module _ {A B : Type 0} (left : List A) (x : A) (rest : List A) (is : left ≡ x ∷ rest) where
  pub flat_left : (f : A → List B) (done more all : List B) → more ≡ done ++ f x → done ++ flat_map f left ≡ all → more ++ flat_map f rest ≡ all
  flat_left f done more all more_is so_far =
      ap (λ ys. ys ++ flat_map f rest) more_is ∙ append_assoc done (f x) (flat_map f rest)
      ∙ ap (λ xs. done ++ flat_map f xs) (sym is) ∙ so_far

  pub map_left : (f : A → B) (done more all : List B) (y : B) → more ≡ done ++ y ∷ [] → y ≡ f x → done ++ map f left ≡ all → more ++ map f rest ≡ all
  map_left f done more all y more_is y_is so_far =
      ap (λ ys. ys ++ map f rest) (more_is ∙ ap (λ z. done ++ z ∷ []) y_is) ∙ append_assoc done (f x ∷ []) (map f rest)
      ∙ ap (λ xs. done ++ map f xs) (sym is) ∙ so_far

  pub filter_left : (f : A → Option B) (done more all : List B) (y : B) → more ≡ done ++ y ∷ [] → f x ≡ Some y → done ++ filter_map f left ≡ all
      → more ++ filter_map f rest ≡ all
  filter_left f done more all y more_is found so_far =
      ap (λ ys. ys ++ filter_map f rest) more_is ∙ append_assoc done (y ∷ []) (filter_map f rest)
      ∙ ap (λ o. done ++ cons_option o (filter_map f rest)) (sym found)
      ∙ ap (λ xs. done ++ filter_map f xs) (sym is) ∙ so_far

  pub filter_past : (f : A → Option B) (done all : List B) → f x ≡ None → done ++ filter_map f left ≡ all → done ++ filter_map f rest ≡ all
  filter_past f done all none so_far =
      ap (λ o. done ++ cons_option o (filter_map f rest)) (sym none) ∙ ap (λ xs. done ++ filter_map f xs) (sym is) ∙ so_far

-- nothing is left
module _ {A B : Type 0} (left : List A) (none : left ≡ []) (done all : List B) where
  pub map_done : (f : A → B) → done ++ map f left ≡ all → done ≡ all
  map_done f so_far = sym (append-nil done) ∙ ap (λ xs. done ++ map f xs) (sym none) ∙ so_far

  pub filter_done : (f : A → Option B) → done ++ filter_map f left ≡ all → done ≡ all
  filter_done f so_far = sym (append-nil done) ∙ ap (λ xs. done ++ filter_map f xs) (sym none) ∙ so_far

  pub flat_done : (f : A → List B) → done ++ flat_map f left ≡ all → done ≡ all
  flat_done f so_far = sym (append-nil done) ∙ ap (λ xs. done ++ flat_map f xs) (sym none) ∙ so_far
