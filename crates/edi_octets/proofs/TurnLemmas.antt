-- What a `for` over an iterator of this crate has seen, and what it has left: the `view` and the `rest` of its
-- `YieldsFirstBy`, as `line_shown` and `body_left`. s is the iterator as the loop began, and t as it is now.
use Rattle.std.proofs.Common.{◌≡◌, Bool, true, false, ◌||◌, List, [], ◌∷◌, ◌++◌, map, filter, Err, refl, ap, ◌∙◌, append-nil}
use Rattle.std.specs.Iterator.{YieldsFirstBy, Yields}
use Rattle.std.specs.List.{list_any, flat_map}
use Rattle.std.proofs.lemmas.List.{map_push}
use Rattle.std.proofs.lemmas.List.Elements.{filter-append}
use Rattle.std.proofs.lemmas.List.Folds.{list_any-append}
use Rattle.edi_octets.specs.declared.fault.DirFault.{DirFault}
use Rattle.edi_tables.specs.First.{unless_faulty}
use Rattle.edi_octets.specs.Profile.{with_earlier}
use Rattle.edi_octets.proofs.EarlierLemmas.{judged-none, unless_faulty-first}

or_false : (b : Bool) → (b || false) ≡ b
or_false true = refl
or_false false = refl

module _ {S A B : Type 0} (view : A → B) (rest : S → List B) where
  -- what has come, and then what is left
  pub rest-so_far : (s : S) (seen : List A) (t : S) → Yields (YieldsFirstBy view rest) s seen t → rest s ≡ map view seen ++ rest t
  rest-so_far s [] t same = ap rest same
  rest-so_far s (x ∷ seen) t steps = steps.1 ∙ ap (λ later. view x ∷ later) (rest-so_far steps.0 seen t steps.2)

  -- where x comes now
  pub rest-turn : (s : S) (seen : List A) (t : S) → Yields (YieldsFirstBy view rest) s seen t → (x : A) (u : S) → rest t ≡ view x ∷ rest u → rest s ≡ map view seen ++ view x ∷ rest u
  rest-turn s seen t steps x u here = rest-so_far s seen t steps ∙ ap (λ later. map view seen ++ later) here

  -- where nothing more comes
  pub rest-end : (s : S) (seen : List A) (t : S) → Yields (YieldsFirstBy view rest) s seen t → rest t ≡ [] → rest s ≡ map view seen
  rest-end s seen t steps none = rest-so_far s seen t steps ∙ ap (λ later. map view seen ++ later) none ∙ append-nil (map view seen)

  module _ {C : Type 0} (judge : List B × B → List C) where
    -- nothing is found, and x comes, at which nothing is found either
    pub judged-turn : (seen : List A) (x : A) → flat_map judge (with_earlier (map view seen)) ≡ [] → judge (map view seen, view x) ≡ [] → flat_map judge (with_earlier (map view (seen ++ x ∷ []))) ≡ []
    judged-turn seen x none here =
        ap (λ all. flat_map judge (with_earlier all)) (map_push view seen x) ∙ judged-none judge (map view seen) (view x) none here

    -- nothing is found, and nothing more comes
    pub judged-end : (s : S) (seen : List A) (t : S) → Yields (YieldsFirstBy view rest) s seen t → rest t ≡ [] → flat_map judge (with_earlier (map view seen)) ≡ [] → flat_map judge (with_earlier (rest s)) ≡ []
    judged-end s seen t steps ended none =
        ap (λ all. flat_map judge (with_earlier all)) (rest-end s seen t steps ended) ∙ none

  module _ (p : B → Bool) where
    -- whether one that passes has come, once x has come
    pub any-turn : (seen : List A) (x : A) → list_any p (map view (seen ++ x ∷ [])) ≡ (list_any p (map view seen) || p (view x))
    any-turn seen x =
        ap (list_any p) (map_push view seen x) ∙ list_any-append p (map view seen) (view x ∷ []) ∙ ap (λ last. list_any p (map view seen) || last) (or_false (p (view x)))

    -- those that pass, once x has come and passes, or doesn't
    pub filter-turn_yes : (seen : List A) (x : A) → p (view x) ≡ true → filter p (map view (seen ++ x ∷ [])) ≡ filter p (map view seen) ++ view x ∷ []
    filter-turn_yes seen x passes =
        ap (filter p) (map_push view seen x) ∙ filter-append p (map view seen) (view x ∷ []) ∙ rw passes refl

    pub filter-turn_no : (seen : List A) (x : A) → p (view x) ≡ false → filter p (map view (seen ++ x ∷ [])) ≡ filter p (map view seen)
    filter-turn_no seen x fails =
        ap (filter p) (map_push view seen x) ∙ filter-append p (map view seen) (view x ∷ []) ∙ rw fails (append-nil (filter p (map view seen)))

  -- nothing is found, and x comes, at which this fault is found: it is the first
  pub fault-turn : {D : Type 0} (judge : List B × B → List DirFault) (definitions : D) (s : S) (seen : List A) (t : S) → Yields (YieldsFirstBy view rest) s seen t → (x : A) (u : S) → rest t ≡ view x ∷ rest u → flat_map judge (with_earlier (map view seen)) ≡ [] → (fault : DirFault) (more : List DirFault) → judge (map view seen, view x) ≡ fault ∷ more → unless_faulty (flat_map judge (with_earlier (rest s))) definitions ≡ Err fault
  fault-turn judge definitions s seen t steps x u here none fault more found =
      ap (λ all. unless_faulty (flat_map judge (with_earlier all)) definitions) (rest-turn s seen t steps x u here) ∙ unless_faulty-first judge (map view seen) (view x) (rest u) fault more definitions none found
