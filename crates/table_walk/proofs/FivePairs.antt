-- Arrays of five pairs are one where each of their pairs is.
use Rattle.std.proofs.Common.{◌≡◌, ℕ, zero, suc, ◌<◌, List, length, sym, ◌∙◌, arith}
use Rattle.std.proofs.Math.ListN.{get_or}
use Rattle.std.proofs.lemmas.List.{get_or_default, same_lists}

-- the pair at a place of both is the same
abbrev pub IsSameAt : List (ℕ × ℕ) → List (ℕ × ℕ) → ℕ → Type 0
IsSameAt xs ys k = get_or xs k (0, 0) ≡ get_or ys k (0, 0)

same_at : (xs ys : List (ℕ × ℕ)) → IsSameAt xs ys 0 → IsSameAt xs ys 1 → IsSameAt xs ys 2 → IsSameAt xs ys 3 → IsSameAt xs ys 4 → (k : ℕ) → k < 5 → IsSameAt xs ys k
same_at xs ys a b c d e zero within = a
same_at xs ys a b c d e (suc zero) within = b
same_at xs ys a b c d e (suc (suc zero)) within = c
same_at xs ys a b c d e (suc (suc (suc zero))) within = d
same_at xs ys a b c d e (suc (suc (suc (suc zero)))) within = e
same_at xs ys a b c d e (suc (suc (suc (suc (suc k))))) within = absurd (omega (arith, within))

pub same_five : (xs ys : List (ℕ × ℕ)) → length xs ≡ 5 → length ys ≡ 5 → IsSameAt xs ys 0 → IsSameAt xs ys 1 → IsSameAt xs ys 2 → IsSameAt xs ys 3 → IsSameAt xs ys 4 → xs ≡ ys
same_five xs ys long too a b c d e =
    same_lists xs ys (long ∙ sym too) (λ k z within.
    get_or_default xs k z (0, 0) within
    ∙ same_at xs ys a b c d e k (omega (arith, within, long))
    ∙ sym (get_or_default ys k z (0, 0) (omega (arith, within, long, too))))
