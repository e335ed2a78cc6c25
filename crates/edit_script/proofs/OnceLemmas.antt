-- Texts of which none is a front of another.
use Rattle.std.proofs.Common.{◌≡◌, ◌++◌, ℕ, List, [], ◌∷◌, length, ◌⊎◌, inl, inr, ⊎_elim, refl, sym, ap, ◌∙◌, subst, arith, length-append, append_assoc}
use Rattle.std.proofs.lemmas.List.{append-nil}
use Rattle.edit_script.specs.Beginnings.{IsPartOf, BeginsNoneOf}
use Rattle.edit_script.specs.Reading.{IsSomeText}

-- texts of which none begins another: two that begin the same octets are one
abbrev pub IsOnce : {V : Type 0} → (V → List ℕ → Type 0) → Type 0
IsOnce {V} IsTextOf = (v w : V) (s t more rest : List ℕ) → IsTextOf v s → IsTextOf w t → s ++ more ≡ t ++ rest → (v ≡ w) × (s ≡ t)

-- of two fronts of the same octets one is a front of the other
pub fronts : (a b more rest : List ℕ) → a ++ more ≡ b ++ rest → ((left : List ℕ) × (b ≡ a ++ left) × (more ≡ left ++ rest)) ⊎ ((y : ℕ) × (left : List ℕ) × (a ≡ b ++ y ∷ left))
fronts [] b more rest same = inl (b, refl, same)
fronts (x ∷ a) [] more rest same = inr (x, a, refl)
fronts (x ∷ a) (y ∷ b) more rest same =
    let head : x ≡ y = cc in
    let tail : a ++ more ≡ b ++ rest = cc in
    ⊎_elim
    (λ (is : (left : List ℕ) × (b ≡ a ++ left) × (more ≡ left ++ rest)). inl (is.0, cc (head, is.1), is.2))
    (λ (is : (z : ℕ) × (left : List ℕ) × (a ≡ b ++ z ∷ left)). inr (is.0, is.1, cc (head, is.2)))
    (fronts a b more rest tail)

-- where texts are once, no text is a front of a part of one
pub no_whole : {V : Type 0} (IsTextOf : V → List ℕ → Type 0) (v : V) (text more front : List ℕ) → IsOnce IsTextOf → IsTextOf v text → IsPartOf (IsSomeText IsTextOf) front → front ≡ text ++ more → ⊥
no_whole IsTextOf v text more front once is part same =
    let along : text ++ (more ++ part.0) ≡ (front ++ part.0) ++ [] = sym (append_assoc text more part.0) ∙ ap (λ (xs : List ℕ). xs ++ part.0) (sym same) ∙ sym (append-nil (front ++ part.0)) in
    let one = once v part.2.0 text (front ++ part.0) (more ++ part.0) [] is part.2.1 along in
    omega (arith, part.1, ap length one.1, ap length same, length-append front part.0, length-append text more)

goes_on_by : {V : Type 0} (IsTextOf : V → List ℕ → Type 0) (v : V) (text front left more behind : List ℕ) (x : ℕ) → IsOnce IsTextOf → IsPartOf (IsSomeText IsTextOf) front → ((v : V) (rest : List ℕ) → IsTextOf v (front ++ x ∷ rest) → ⊥) → IsTextOf v text → text ≡ front ++ left → x ∷ more ≡ left ++ behind → ⊥
goes_on_by IsTextOf v text front [] more behind x once part goes_on is same next =
    no_whole IsTextOf v text [] front once is part (sym (append-nil front) ∙ sym same ∙ sym (append-nil text))
goes_on_by IsTextOf v text front (y ∷ left) more behind x once part goes_on is same next =
    let head : y ≡ x = cc in
    goes_on v left (subst (λ (xs : List ℕ). IsTextOf v xs) (same ∙ ap (λ (z : ℕ). front ++ z ∷ left) head) is)

-- where texts are once, no text has a part of one as a front; so it is enough that none goes on by the octet
pub none_after_part : {V : Type 0} (IsTextOf : V → List ℕ → Type 0) (front : List ℕ) (x : ℕ) → IsOnce IsTextOf → IsPartOf (IsSomeText IsTextOf) front → ((v : V) (rest : List ℕ) → IsTextOf v (front ++ x ∷ rest) → ⊥) → BeginsNoneOf (IsSomeText IsTextOf) (front ++ x ∷ [])
none_after_part IsTextOf front x once part goes_on text more behind is same =
    let along : front ++ x ∷ more ≡ text ++ behind = sym (append_assoc front (x ∷ []) more) ∙ same in
    ⊎_elim
    (λ (on : (left : List ℕ) × (text ≡ front ++ left) × (x ∷ more ≡ left ++ behind)). goes_on_by IsTextOf is.0 text front on.0 more behind x once part goes_on is.1 on.1 on.2)
    (λ (inside : (y : ℕ) × (left : List ℕ) × (front ≡ text ++ y ∷ left)). no_whole IsTextOf is.0 text (inside.0 ∷ inside.1) front once is.1 part inside.2)
    (fronts front text (x ∷ more) behind along)
