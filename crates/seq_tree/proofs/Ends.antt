-- The last item of a list that comes after others.
use Rattle.std.proofs.Common.{◌≡◌, ◌+◌, ◌-◌, ◌++◌, ℕ, List, [], ◌∷◌, zero, suc, length, Option, refl, sym, ap, ◌∙◌, arith}
use Rattle.std.proofs.lemmas.List.{length-append}
use Rattle.std.specs.List.{slice_get}

past_front : {A : Type 0} (front back : List A) (k n : ℕ) → n ≡ length front + k
    → slice_get (front ++ back) n ≡ slice_get back k
past_front [] back k n is = ap (slice_get back) (omega (arith, is))
past_front (x ∷ front) back k zero is = absurd (omega (arith, is))
past_front (x ∷ front) back k (suc n) is = past_front front back k n (omega (arith, is))

-- where there is none after them there are no others either: it is the last of them all
last_of_both : {A : Type 0} (front back : List A) → (back ≡ [] → front ≡ [])
    → slice_get back (length back - 1) ≡ slice_get (front ++ back) (length (front ++ back) - 1)
last_of_both front [] none = ap (λ xs. slice_get (xs ++ []) (length (xs ++ []) - 1)) (sym (none refl))
last_of_both front (y ∷ back) none =
    sym (past_front front (y ∷ back) (length (y ∷ back) - 1) (length (front ++ y ∷ back) - 1)
    (let all = length-append front (y ∷ back) in omega arith))

abbrev end : {A : Type 0} → List A → Option A
end xs = slice_get xs (length xs - 1)

-- told of the list that comes last, it is told of them all
pub last_of_all : {A : Type 0} (front back all told : List A) (last : Option A) → (back ≡ [] → front ≡ [])
    → front ++ back ≡ all → told ≡ back → last ≡ slice_get told (length told - 1)
    → last ≡ slice_get all (length all - 1)
last_of_all front back all told last none all_is told_is is =
    is ∙ (ap end told_is ∙ (last_of_both front back none ∙ ap end all_is))
