-- Lists of pairs that are equal.
use Rattle.std.proofs.Common.{◌≡◌, ℕ, Bool, List, Decides, ap, ◌∙◌}
use Rattle.std.specs.Prelude.{◌==◌, ◌&&◌}
use Rattle.std.specs.Cmp.Lexicographic.{pointwise}
use Rattle.std.proofs.lemmas.Bool.Decides.{Decides-and, Decides-eqb, Decides-like}
use Rattle.std.proofs.lemmas.Slice.Eq.{slice_eq-Decides}

pair_is : (a b : ℕ × ℕ) → (a.0 ≡ b.0) × (a.1 ≡ b.1) → a ≡ b
pair_is a b parts = ap (λ (x : ℕ). let p : ℕ × ℕ = (x, a.1) in p) parts.0 ∙ ap (λ (y : ℕ). let p : ℕ × ℕ = (b.0, y) in p) parts.1

pair_parts : (a b : ℕ × ℕ) → a ≡ b → (a.0 ≡ b.0) × (a.1 ≡ b.1)
pair_parts a b same = (ap (λ (p : ℕ × ℕ). p.0) same, ap (λ (p : ℕ × ℕ). p.1) same)

-- what `==` says of two lists of pairs
pub pairs_same : (xs ys : List (ℕ × ℕ)) (r : Bool) → r ≡ pointwise (λ (a b : ℕ × ℕ). a.0 == b.0 && a.1 == b.1) xs ys → Decides r (xs ≡ ys)
pairs_same xs ys r is =
    slice_eq-Decides (λ (a b : ℕ × ℕ). Decides-like (a.0 == b.0 && a.1 == b.1) (pair_is a b) (pair_parts a b) (Decides-and (a.0 == b.0) (a.1 == b.1) (Decides-eqb a.0 b.0) (Decides-eqb a.1 b.1))) xs ys r is
