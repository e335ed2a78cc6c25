-- Octets as one number: octets that differ have different numbers, and those of few octets are small.
use Rattle.std.proofs.Common.{◌≡◌, ℕ, ◌+◌, ◌*◌, ◌^◌, ◌-◌, ◌<◌, ◌≤◌, List, [], ◌∷◌, zero, suc, All, length, drop, get_or, refl, subst, sym, arith}
use Rattle.std.proofs.Math.Nat.{one-le-pow, pow-suc}
use Rattle.std.proofs.lemmas.List.Elements.{All-from_get_or, All-head, All-tail}
use Rattle.std.proofs.lemmas.List.{get_or-drop, length-drop}
use Rattle.dir_compile.specs.Number.{number}

-- each is an octet
abbrev pub AreSmall : List ℕ → Type 0
AreSmall xs = All (λ x. x < 256) xs

-- a number is never 0
above-zero : (xs : List ℕ) → 0 < number xs
above-zero [] = omega arith
above-zero (x ∷ xs) =
    let rest : 0 < number xs = above-zero xs in
    omega (arith, rest)

-- the octets of a number are its own
pub number-once : (xs ys : List ℕ) → AreSmall xs → AreSmall ys → number xs ≡ number ys → xs ≡ ys
number-once [] [] small others_small same = refl
number-once [] (y ∷ ys) small others_small same =
    let rest : 0 < number ys = above-zero ys in
    absurd (omega (arith, rest, same))
number-once (x ∷ xs) [] small others_small same =
    let rest : 0 < number xs = above-zero xs in
    absurd (omega (arith, rest, same))
number-once (x ∷ xs) (y ∷ ys) small others_small same =
    let x_small : x < 256 = All-head (λ z. z < 256) x xs small in
    let y_small : y < 256 = All-head (λ z. z < 256) y ys others_small in
    let rests : number xs ≡ number ys = omega (arith, x_small, y_small, same) in
    let firsts : x ≡ y = omega (arith, rests, same) in
    let rest : xs ≡ ys = number-once xs ys (All-tail (λ z. z < 256) x xs small) (All-tail (λ z. z < 256) y ys others_small) rests in
    λ i. firsts i ∷ rest i

-- the number of so many octets at most is below this
pub number-below : (xs : List ℕ) (most : ℕ) → AreSmall xs → length xs ≤ most → number xs < 2 * 256 ^ most
number-below [] most small short =
    let one : 1 ≤ 256 ^ most = one-le-pow most 256 (omega arith) in
    omega (arith, one)
number-below (x ∷ xs) zero small short = absurd (omega (arith, short))
number-below (x ∷ xs) (suc most) small short =
    let x_small : x < 256 = All-head (λ z. z < 256) x xs small in
    let rest : number xs < 2 * 256 ^ most = number-below xs most (All-tail (λ z. z < 256) x xs small) (omega (arith, short)) in
    let power : 256 ^ suc most ≡ 256 ^ most * 256 = pow-suc 256 most in
    omega (arith, x_small, rest, power)

-- the octets from a place on
pub small-from : (xs : List ℕ) (at : ℕ) → ((i : ℕ) → get_or xs i 0 < 256) → AreSmall (drop at xs)
small-from xs at small =
    All-from_get_or (λ z. z < 256) (drop at xs) 0
    (λ i within. subst (λ z. z < 256) (sym (get_or-drop at xs i 0)) (small (at + i)))

-- the number of all but one of seven octets
pub number-small : (xs : List ℕ) (at n : ℕ) → ((i : ℕ) → get_or xs i 0 < 256) → length xs ≤ 7 → 0 < at → n ≡ number (drop at xs)
    → n < 562949953421312
number-small xs at n small short behind is =
    let long : length (drop at xs) ≡ length xs - at = length-drop at xs in
    let below : number (drop at xs) < 2 * 256 ^ 6 = number-below (drop at xs) 6 (small-from xs at small) (omega (arith, long, short, behind)) in
    omega (arith, is, below)
