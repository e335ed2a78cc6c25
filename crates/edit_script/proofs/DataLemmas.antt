-- So many octets, and LF.
use Rattle.std.proofs.Common.{◌≡◌, ◌≢◌, ◌-◌, ◌++◌, ◌≤◌, ℕ, List, [], ◌∷◌, length, replicate, refl, sym, ap, ◌∙◌, arith, length-append, append_assoc}
use Rattle.std.proofs.lemmas.List.{length-replicate}
use Rattle.edit_script.specs.Beginnings.{IsPartOf, BeginsNoneOf}
use Rattle.edit_script.specs.Reading.{IsSomeText}
use Rattle.edit_script.specs.Texts.{IsDataText}
use Rattle.edit_script.proofs.OnceLemmas.{IsOnce}

-- fronts of one length are equal, and so is what follows them
same_front : (a b more rest : List ℕ) → length a ≡ length b → a ++ more ≡ b ++ rest → (a ≡ b) × (more ≡ rest)
same_front [] [] more rest long same = (refl, same)
same_front [] (y ∷ b) more rest long same = absurd (omega arith)
same_front (x ∷ a) [] more rest long same = absurd (omega arith)
same_front (x ∷ a) (y ∷ b) more rest long same =
    let head : x ≡ y = cc in
    let tail : a ++ more ≡ b ++ rest = cc in
    let inner = same_front a b more rest (omega arith) tail in
    (cc (head, inner.0), inner.1)

pub data_part : (size : ℕ) (front : List ℕ) → length front ≤ size → IsPartOf (IsSomeText (IsDataText size)) front
data_part size front within =
    let fill : List ℕ = replicate (size - length front) 0 in
    (fill ++ 10 ∷ [], omega (arith, length-append fill (10 ∷ [])), (front ++ fill, (omega (arith, within, length-append front fill, length-replicate {A = ℕ} (size - length front) 0), sym (append_assoc front fill (10 ∷ [])))))

-- an octet after them that isn't LF
pub data_bad : (size x : ℕ) (put : List ℕ) → length put ≡ size → x ≢ 10 → BeginsNoneOf (IsSomeText (IsDataText size)) (put ++ x ∷ [])
data_bad size x put long other text more behind is same =
    let along : put ++ x ∷ more ≡ is.0 ++ 10 ∷ behind = sym (append_assoc put (x ∷ []) more) ∙ same ∙ ap (λ (xs : List ℕ). xs ++ behind) is.1.1 ∙ append_assoc is.0 (10 ∷ []) behind in
    let rest : x ∷ more ≡ 10 ∷ behind = (same_front put is.0 (x ∷ more) (10 ∷ behind) (omega (arith, long, is.1.0)) along).1 in
    other (cc)

pub data_once : (size : ℕ) → IsOnce (IsDataText size)
data_once size v w s t more rest first second same =
    let along : v ++ 10 ∷ more ≡ w ++ 10 ∷ rest = sym (append_assoc v (10 ∷ []) more) ∙ ap (λ (xs : List ℕ). xs ++ more) (sym first.1) ∙ same ∙ ap (λ (xs : List ℕ). xs ++ rest) second.1 ∙ append_assoc w (10 ∷ []) rest in
    let put : v ≡ w = (same_front v w (10 ∷ more) (10 ∷ rest) (omega (arith, first.0, second.0)) along).0 in
    (put, first.1 ∙ ap (λ (xs : List ℕ). xs ++ 10 ∷ []) put ∙ sym second.1)
