-- Definitions that are found by name.
use Rattle.std.proofs.Common.{◌≡◌, ℕ, ◌+◌, ◌≤◌, ◌<◌, Bor, get_or, IfSome, MatchOption, Bool, true, false, not, ◌||◌, nat_lt, arith, List, [], ◌∷◌, Option, Some, None, map, length, sym, ap, ◌∙◌, refl, subst, cond, is_some, slice_get, position}
use Rattle.std.specs.List.{list_any, find, position_or_len, HoldsAt}
use Rattle.std.proofs.lemmas.List.{length-map}
use Rattle.std.proofs.lemmas.List.Folds.{find_at}
use Rattle.std.proofs.lemmas.Option.{cond_some, slice_get_past, slice_get_read}
use Rattle.std.proofs.lemmas.Bool.Decides.{nat_tests}
use Rattle.std.specs.Option.{option_copied}
use Rattle.std.specs.Str.{bytes_eq}
use Rattle.std.proofs.lemmas.Cmp.{nat_list_eq_equiv}
use Rattle.dir_compile.specs.Compile.{named_in}

-- whether a name is there
pub contains-named : {A : Type 0} (name : A → List ℕ) (xs : List A) (wanted : List ℕ) (keys : List (List ℕ)) → keys ≡ map name xs → list_any (bytes_eq wanted) keys ≡ is_some (named_in name xs wanted)
contains-named name xs wanted keys e = ap (list_any (bytes_eq wanted)) e ∙ by xs
  where
    by : (ys : List _) → list_any (bytes_eq wanted) (map name ys) ≡ is_some (named_in name ys wanted)
    by [] = refl
    by (y ∷ ys) = ap (λ b. b || list_any (bytes_eq wanted) (map name ys)) (nat_list_eq_equiv.symm wanted (name y)) ∙ there (bytes_eq (name y) wanted) (by ys)
      where
        there : (b : Bool) → list_any (bytes_eq wanted) (map name ys) ≡ is_some (named_in name ys wanted) → (b || list_any (bytes_eq wanted) (map name ys)) ≡ is_some (cond b (Some y) (named_in name ys wanted))
        there true h = refl
        there false h = h

-- the place of a name among names is that of its definition
module _ {A : Type 0} (name : A → List ℕ) (wanted : List ℕ) where
  place-map : (xs : List A) → position_or_len (bytes_eq wanted) (map name xs) ≡ position_or_len (λ x. bytes_eq wanted (name x)) xs
  place-map [] = refl
  place-map (x ∷ xs) = ap (λ n. cond (not (bytes_eq wanted (name x))) (1 + n) 0) (place-map xs)

  find-flip : (xs : List A) → find (λ x. bytes_eq wanted (name x)) xs ≡ named_in name xs wanted
  find-flip [] = refl
  find-flip (x ∷ xs) = λ i. cond (nat_list_eq_equiv.symm wanted (name x) i) (Some x) (find-flip xs i)

  found-place : (xs : List A) → slice_get xs (position_or_len (bytes_eq wanted) (map name xs)) ≡ named_in name xs wanted
  found-place xs = ap (slice_get xs) (place-map xs) ∙ sym (find_at (λ x. bytes_eq wanted (name x)) xs) ∙ find-flip xs

  -- the definition at the place of the name
  pub named-get : (xs : List A) (keys : List (List ℕ)) (i : ℕ) → keys ≡ map name xs → Some i ≡ position (bytes_eq wanted) keys → slice_get xs i ≡ named_in name xs wanted
  named-get xs keys i e at =
      let here = cond_some _ _ _ (sym (at ∙ ap (position (bytes_eq wanted)) e)) in
      ap (slice_get xs) (sym here.1) ∙ found-place xs

  -- no definition where the name has no place
  pub named-none : (xs : List A) (keys : List (List ℕ)) → keys ≡ map name xs → None ≡ position (bytes_eq wanted) keys → named_in name xs wanted ≡ None
  named-none xs keys e at =
      sym (found-place xs) ∙ slice_get_past xs _ (subst (λ n. n ≤ position_or_len (bytes_eq wanted) (map name xs)) (length-map xs name) (past _ _ (at ∙ ap (position (bytes_eq wanted)) e)))
    where
      past : (n m : ℕ) → None ≡ cond (nat_lt n m) (Some n) None → m ≤ n
      past n m h = grind (arith, nat_tests)

-- what `get` gives is the element at the place
pub copied-get : {A : Type 0} (xs : List A) (i : ℕ) (r : Option (Bor A)) → IfSome r (λ x. x.now ≡ get_or xs i x.now) → MatchOption r (length xs ≤ i) (λ x. (i < length xs) × HoldsAt (λ y. x.now ≡ y) xs i) → option_copied r ≡ slice_get xs i
copied-get xs i None h m = sym (slice_get_past xs i m)
copied-get xs i (Some x) h m = sym (slice_get_read xs (length xs) i x.now refl m.0 h)
