-- What lists keep that are changed member by member, or of whose members others are made.
use Rattle.std.proofs.Common.{◌≡◌, ℕ, ◌<◌, Bool, true, false, cond, List, [], ◌∷◌, map, length, Option, Some, None, is_some, get_or, inl, inr, refl, sym, ap, ◌∙◌, arith}
use Rattle.std.specs.Prelude.{All}
use Rattle.std.specs.List.{AllZip, cons_option, filter_map, flat_map, list_all}
use Rattle.std.specs.Str.{bytes_eq}
use Rattle.std.proofs.lemmas.Bool.{and_from, and_parts}
use Rattle.std.proofs.lemmas.List.{get_or-map, length-map}
use Rattle.std.proofs.lemmas.List.Elements.{All-contains}
use Rattle.edi_tables.specs.Ascending.{is_before, IsAscendingBy}
use Rattle.edi_tables.proofs.AscendingLemmas.{ascending-head, ascending-tail}
use Rattle.edi_tables.proofs.Faults.{nil-append}
use Rattle.dir_compile.specs.Compile.{named_in, twice_in, value_name}
use Rattle.dir_compile.proofs.AscendingLemmas.{Contains-from-Has, Has, IsAscending}
use Rattle.dir_compile.proofs.Twice.{twice_in-map}
use Rattle.guide_overlay.proofs.Emptied.{none_joined}

-- what is true of all members
pub all_has : {A : Type 0} (P : A → Type 0) (xs : List A) (x : A) → All P xs → Has xs x → P x
all_has P xs x all has = All-contains P xs x all (Contains-from-Has xs x has)

pub all_pass : {A : Type 0} (test : A → Bool) (xs : List A) → ((x : A) → Has xs x → test x ≡ true) → list_all test xs ≡ true
all_pass test [] each = refl
all_pass test (x ∷ xs) each = and_from (test x) (list_all test xs) (each x (inl refl)) (all_pass test xs (λ y has. each y (inr has)))

pub passes_at : {A : Type 0} (test : A → Bool) (xs : List A) → list_all test xs ≡ true → (x : A) → Has xs x → test x ≡ true
passes_at test [] all x has = absurd has
passes_at test (y ∷ ys) all x (inl is) = ap test is ∙ (and_parts (test y) (list_all test ys) all).0
passes_at test (y ∷ ys) all x (inr has) = passes_at test ys (and_parts (test y) (list_all test ys) all).1 x has

-- two lists along each other
module _ {A : Type 0} where
  pub zip_weaker : (R S : A → A → Type 0) → ((x y : A) → R x y → S x y) → (xs ys : List A) → AllZip R xs ys → AllZip S xs ys
  zip_weaker R S weaker [] [] along = tt
  zip_weaker R S weaker [] (y ∷ ys) along = absurd along
  zip_weaker R S weaker (x ∷ xs) [] along = absurd along
  zip_weaker R S weaker (x ∷ xs) (y ∷ ys) along = (weaker x y along.0, zip_weaker R S weaker xs ys along.1)

  pub pass_along : (test : A → Bool) (xs ys : List A) → AllZip (λ x y. test x ≡ true → test y ≡ true) xs ys → list_all test xs ≡ true → list_all test ys ≡ true
  pass_along test [] [] along all = refl
  pass_along test [] (y ∷ ys) along all = absurd along
  pass_along test (x ∷ xs) [] along all = refl
  pass_along test (x ∷ xs) (y ∷ ys) along all =
      let parts = and_parts (test x) (list_all test xs) all in
      and_from (test y) (list_all test ys) (along.0 parts.0) (pass_along test xs ys along.1 parts.1)

  pub none_along : {B : Type 0} (f g : A → List B) (xs ys : List A) → AllZip (λ x y. f x ≡ [] → g y ≡ []) xs ys → flat_map f xs ≡ [] → flat_map g ys ≡ []
  none_along f g [] [] along none = refl
  none_along f g [] (y ∷ ys) along none = absurd along
  none_along f g (x ∷ xs) [] along none = refl
  none_along f g (x ∷ xs) (y ∷ ys) along none =
      let parts = nil-append (f x) (flat_map f xs) none in
      none_joined (g y) (flat_map g ys) (along.0 parts.0) (none_along f g xs ys along.1 parts.1)

-- members that are changed and keep their names
module _ {A : Type 0} (name : A → List ℕ) (changed : A → A) (keeps : (x : A) → name (changed x) ≡ name x) where
  names_same : (xs : List A) → map name (map changed xs) ≡ map name xs
  names_same [] = refl
  names_same (x ∷ xs) = ap (λ n. n ∷ map name (map changed xs)) (keeps x) ∙ ap (λ more. name x ∷ more) (names_same xs)

  pub twice_changed : (xs : List A) → twice_in name xs ≡ [] → twice_in name (map changed xs) ≡ []
  twice_changed xs none = sym (twice_in-map name (map changed xs)) ∙ ap (twice_in value_name) (names_same xs) ∙ twice_in-map name xs ∙ none

  pub ascending_changed : (xs : List A) → IsAscendingBy name xs → IsAscendingBy name (map changed xs)
  ascending_changed xs order i j d less within =
      let there : j < length xs = omega (arith, within, length-map xs changed) in
      let low : name (get_or (map changed xs) i d) ≡ name (get_or xs i d) = ap name (get_or-map changed xs i d d (omega arith)) ∙ keeps (get_or xs i d) in
      let high : name (get_or (map changed xs) j d) ≡ name (get_or xs j d) = ap name (get_or-map changed xs j d d there) ∙ keeps (get_or xs j d) in
      ap (λ n. is_before n (name (get_or (map changed xs) j d))) low ∙ ap (λ n. is_before (name (get_or xs i d)) n) high ∙ order i j d less there

  either_some : (x : A) (more rest : Option A) → is_some more ≡ is_some rest → (b : Bool) → is_some (cond b (Some (changed x)) more) ≡ is_some (cond b (Some x) rest)
  either_some x more rest same true = refl
  either_some x more rest same false = same

  -- under a name there is one where there was
  pub some_changed : (wanted : List ℕ) (xs : List A) → is_some (named_in name (map changed xs) wanted) ≡ is_some (named_in name xs wanted)
  some_changed wanted [] = refl
  some_changed wanted (x ∷ xs) =
      ap (λ n. is_some (cond (bytes_eq n wanted) (Some (changed x)) (named_in name (map changed xs) wanted))) (keeps x)
      ∙ either_some x (named_in name (map changed xs) wanted) (named_in name xs wanted) (some_changed wanted xs) (bytes_eq (name x) wanted)

-- members that are made of others, each of the same name as what it is made of
module _ {A B : Type 0} (made : A → Option B) where
  has_either : (x : A) (xs : List A) (z : B) (found : Option B) → made x ≡ found → Has (cons_option found (filter_map made xs)) z
      → (Has (filter_map made xs) z → (y : A) × Has xs y × (made y ≡ Some z)) → (y : A) × Has (x ∷ xs) y × (made y ≡ Some z)
  has_either x xs z None is has later = let found = later has in (found.0, inr found.1, found.2)
  has_either x xs z (Some w) is (inl same) later = (x, inl refl, is ∙ ap Some (sym same))
  has_either x xs z (Some w) is (inr has) later = let found = later has in (found.0, inr found.1, found.2)

  pub has_made : (xs : List A) (z : B) → Has (filter_map made xs) z → (x : A) × Has xs x × (made x ≡ Some z)
  has_made [] z has = absurd has
  has_made (x ∷ xs) z has = has_either x xs z (made x) refl has (has_made xs z)

  module _ (key : A → List ℕ) (name : B → List ℕ) (named : (x : A) (y : B) → made x ≡ Some y → name y ≡ key x) where
    made_next : (x : A) (xs : List A) → IsAscendingBy key (x ∷ xs) → (found : Option B) → made x ≡ found → IsAscending name (filter_map made xs)
        → IsAscending name (cons_option found (filter_map made xs))
    made_next x xs order None is rest = rest
    made_next x xs order (Some y) is rest = (
      λ z has. let other = has_made xs z has in
          ap (λ n. is_before n (name z)) (named x y is) ∙ ap (λ n. is_before (key x) n) (named other.0 z other.2)
          ∙ ascending-head key x xs other.0 order (Contains-from-Has xs other.0 other.1),
      rest,
    )

    pub made_ascending : (xs : List A) → IsAscendingBy key xs → IsAscending name (filter_map made xs)
    made_ascending [] order = tt
    made_ascending (x ∷ xs) order = made_next x xs order (made x) refl (made_ascending xs (ascending-tail key x xs order))
