-- A step of a set of the names before a place.
use Rattle.std.proofs.Common.{◌≡◌, ℕ, ◌+◌, ◌<◌, Bool, true, false, not, ◌||◌, List, [], ◌∷◌, ◌++◌, ◌≤◌, length, get_or, slice_get, take, map, Some, sym, ap, ◌∙◌, refl, subst, if◌then◌else◌, true≢false}
use Rattle.std.specs.List.{list_any}
use Rattle.std.specs.Str.{bytes_eq}
use Rattle.std.proofs.lemmas.List.{take_more, take_all, map_push, length-map, get_or-map}
use Rattle.dir_compile.specs.declared.stop.CompileStop.{CompileStop}
use Rattle.dir_compile.specs.declared.stop.CompileKind.TheVariants.{Twice}
use Rattle.dir_compile.specs.Compile.{twice_in, value_name}
use Rattle.dir_compile.specs.Judges.{IsFirstFault}
use Rattle.dir_compile.specs.Stop.{fault_with, IsStopAt}
use Rattle.dir_compile.proofs.Faults.{first-stop}
use Rattle.dir_compile.proofs.Twice.{twice_in-more, first-twice_in, fresh-at, list_any-flip, twice_in-map}

-- a test of names that are seen by a view
list_any-view : {K : Type 0} (view : K → List ℕ) (test : List ℕ → Bool) (keys : List K) → list_any (λ k. test (view k)) keys ≡ list_any test (map view keys)
list_any-view view test [] = refl
list_any-view view test (k ∷ keys) = ap (λ b. test (view k) || b) (list_any-view view test keys)

-- `not` gives its argument back
not-true : (b : Bool) → true ≡ not b → b ≡ false
not-true true e = absurd (true≢false e)
not-true false e = refl

not-false : (b : Bool) → false ≡ not b → b ≡ true
not-false true e = refl
not-false false e = absurd (true≢false (sym e))

-- what a set answers and keeps, where it has the names before the place i and is given the one there
pub record IsSeenAt {K : Type 0} (view : K → List ℕ) (names : List (List ℕ)) (i : ℕ) (keys : List K) (k : K) : Type 0 where
  pub within : i < length names
  pub here : view k ≡ get_or names i (view k)
  pub placed : map view keys ≡ take i names

module _ {K : Type 0} (view : K → List ℕ) (names : List (List ℕ)) (i : ℕ) (keys : List K) (k : K) (seen : IsSeenAt view names i keys k) where
  -- what the set tests is whether the name occurs before
  tested : list_any (λ y. bytes_eq (view k) (view y)) keys ≡ list_any (λ x. bytes_eq x (view k)) (take i names)
  tested = list_any-view view (bytes_eq (view k)) keys ∙ ap (list_any (bytes_eq (view k))) seen.placed ∙ list_any-flip (take i names) (view k)

  -- a name that isn't added is the first that occurs twice
  pub first-seen : (stop : CompileStop) (added : Bool) → twice_in value_name (take i names) ≡ [] → added ≡ not (list_any (λ y. bytes_eq (view k) (view y)) keys) → added ≡ false → IsStopAt Twice (view k) stop → IsFirstFault stop (twice_in value_name names)
  first-seen stop added apart answers old at =
      let there : list_any (λ x. bytes_eq x (view k)) (take i names) ≡ true = sym tested ∙ not-false _ (sym old ∙ answers) in
      let there' : list_any (λ x. bytes_eq x (get_or names i (view k))) (take i names) ≡ true = subst (λ n. list_any (λ x. bytes_eq x n) (take i names) ≡ true) seen.here there in
      let first : slice_get (twice_in value_name names) 0 ≡ Some (fault_with Twice (get_or names i (view k))) = first-twice_in value_name names i (view k) seen.within apart there' in
      first-stop stop Twice (view k) (twice_in value_name names) at (first ∙ ap (λ n. Some (fault_with Twice n)) (sym seen.here))

  -- a name that is put after those before it
  placed-last : (new : List K) → new ≡ keys ++ k ∷ [] → map view new ≡ take (i + 1) names
  placed-last new kept =
      ap (map view) kept
      ∙ map_push view keys k ∙ ap (λ l. l ++ view k ∷ []) seen.placed
      ∙ ap (λ n. take i names ++ n ∷ []) seen.here
      ∙ sym (take_more names i (view k) seen.within)

  pub placed-seen : (added : Bool) (new : List K) → added ≡ true → new ≡ (if added then keys ++ k ∷ [] else keys) → map view new ≡ take (i + 1) names
  placed-seen added new fresh kept = placed-last new (kept ∙ ap (λ b. if b then keys ++ k ∷ [] else keys) fresh)

  -- where no name comes twice, each is put
  pub placed-apart : (new : List K) → twice_in value_name names ≡ [] → new ≡ (if list_any (λ y. bytes_eq (view k) (view y)) keys then keys else keys ++ k ∷ []) → map view new ≡ take (i + 1) names
  placed-apart new none kept =
      let absent : list_any (λ y. bytes_eq (view k) (view y)) keys ≡ false = tested ∙ subst (λ n. list_any (λ x. bytes_eq x n) (take i names) ≡ false) (sym seen.here) (fresh-at value_name names i (view k) seen.within none) in
      placed-last new (kept ∙ ap (λ b. if b then keys else keys ++ k ∷ []) absent)

  -- and no name occurs twice up to the next place
  pub apart-seen : (added : Bool) → twice_in value_name (take i names) ≡ [] → added ≡ not (list_any (λ y. bytes_eq (view k) (view y)) keys) → added ≡ true → twice_in value_name (take (i + 1) names) ≡ []
  apart-seen added apart answers fresh =
      let absent : list_any (λ x. bytes_eq x (view k)) (take i names) ≡ false = sym tested ∙ not-true _ (sym fresh ∙ answers) in
      let absent' : list_any (λ x. bytes_eq x (get_or names i (view k))) (take i names) ≡ false = subst (λ n. list_any (λ x. bytes_eq x n) (take i names) ≡ false) seen.here absent in
      twice_in-more value_name names i (view k) seen.within apart absent'

-- the same where the names are those of items
pub seen-item : {A K : Type 0} (name : A → List ℕ) (view : K → List ℕ) (xs : List A) (i : ℕ) (keys : List K) (k : K) (x : A) → i < length xs → x ≡ get_or xs i x → view k ≡ name x → map view keys ≡ take i (map name xs) → IsSeenAt view (map name xs) i keys k
seen-item name view xs i keys k x lt here is placed = record {
  within = subst (λ n. i < n) (sym (length-map xs name)) lt;
  here = is ∙ ap name here ∙ sym (get_or-map name xs i x (view k) lt);
  placed = placed;
}

pub first-item : {A : Type 0} (name : A → List ℕ) (xs : List A) (stop : CompileStop) → IsFirstFault stop (twice_in value_name (map name xs)) → IsFirstFault stop (twice_in name xs)
first-item name xs stop h = subst (IsFirstFault stop) (twice_in-map name xs) h

-- after the last item
pub names-taken : {A : Type 0} (name : A → List ℕ) (xs : List A) (i : ℕ) → length xs ≤ i → take i (map name xs) ≡ map name xs
names-taken name xs i le = take_all i (map name xs) (subst (λ n. n ≤ i) (sym (length-map xs name)) le)

pub apart-items : {A : Type 0} (name : A → List ℕ) (xs : List A) (i : ℕ) → length xs ≤ i → twice_in value_name (take i (map name xs)) ≡ [] → twice_in name xs ≡ []
apart-items name xs i le apart =
    sym (twice_in-map name xs) ∙ ap (twice_in value_name) (sym (names-taken name xs i le)) ∙ apart
