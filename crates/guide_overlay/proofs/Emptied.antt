-- What is empty where something else is: pieces that are end to end, and what passes tests.
use Rattle.std.proofs.Common.{◌≡◌, Bool, true, List, [], ◌∷◌, ◌++◌, map, inl, inr, refl, sym, ap, ◌∙◌}
use Rattle.std.specs.Prelude.{filter}
use Rattle.std.specs.List.{flat_map}
use Rattle.std.proofs.lemmas.Bool.{cases_Bool, false≢true}
use Rattle.edi_tables.proofs.Faults.{nil-append}

pub none_mapped : {A B : Type 0} (f : A → B) (xs : List A) → map f xs ≡ [] → xs ≡ []
none_mapped f [] none = refl
none_mapped f (x ∷ xs) none = absurd (let no : ⊥ = cc in no)

-- both pieces are empty where they are so together, and together where each is
pub none_joined : {A : Type 0} (xs ys : List A) → xs ≡ [] → ys ≡ [] → xs ++ ys ≡ []
none_joined xs ys front back = ap (λ zs. zs ++ ys) front ∙ back

-- pieces made of the same members are empty where others are
pub pieces_emptied : {X A B : Type 0} (f : X → List A) (g : X → List B) (xs : List X)
    → ((x : X) → f x ≡ [] → g x ≡ []) → flat_map f xs ≡ [] → flat_map g xs ≡ []
pieces_emptied f g [] each none = refl
pieces_emptied f g (x ∷ xs) each none =
    let both = nil-append (f x) (flat_map f xs) none in
    none_joined (g x) (flat_map g xs) (each x both.0) (pieces_emptied f g xs each both.1)

-- no member passes a test where none passes one that is passed more often
pub passing_emptied : {X : Type 0} (p q : X → Bool) (xs : List X)
    → ((x : X) → p x ≡ true → q x ≡ true) → filter q xs ≡ [] → filter p xs ≡ []
passing_emptied p q [] each none = refl
passing_emptied p q (x ∷ xs) each none = elim (cases_Bool (q x)) [
  | inl passes ↦ absurd (let there = rw passes at none in let no : ⊥ = cc in no)
  | inr fails ↦
      let rest : filter q xs ≡ [] = rw fails at none in
      elim (cases_Bool (p x)) [
        | inl passes ↦ absurd (false≢true (sym fails ∙ each x passes))
        | inr never ↦ rw never (passing_emptied p q xs each rest)
      ]
]
