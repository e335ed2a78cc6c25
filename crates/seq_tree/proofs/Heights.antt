use Rattle.std.proofs.Common.{◌≡◌, ℕ, ◌+◌, ◌*◌, ◌/◌, ◌^◌, ◌<◌, ◌≤◌, suc, max, arith}
use Rattle.std.proofs.Math.Nat.{lt_of_not-le, pow-suc}
use Rattle.std.proofs.Math.Pow.{pow_mono}
use Rattle.seq_tree.specs.Shape.{IsBalancedPair, FillsHeight}

-- a tree of fewer than 2 to the power 32 items is lower than 64
pub height_fits : (h n : ℕ) → FillsHeight h n → n < 2 ^ 32 → h < 64
height_fits h n full fits =
    lt_of_not-le
    (λ high.
    let half : 32 ≤ (h + 1) / 2 = omega arith in
    let power : 2 ^ 32 ≤ 2 ^ ((h + 1) / 2) = pow_mono half in
    omega arith)

-- a way down a tree of fewer than 2 to the power b items visits at most 2 b + 2 nodes
pub visits_fit : (h n b : ℕ) → FillsHeight h n → n < 2 ^ b → h + 1 ≤ 2 * b + 2
visits_fit h n b full fits =
    let low : h < 2 * b + 2 =
    lt_of_not-le
    (λ high.
    let half : b ≤ (h + 1) / 2 = omega arith in
    let power : 2 ^ b ≤ 2 ^ ((h + 1) / 2) = pow_mono half in
    omega arith)
    in
    omega arith

-- two balanced sides with items enough for their heights have enough for a fork's
pub fork_enough : (a b m n : ℕ) → IsBalancedPair a b → FillsHeight a m → FillsHeight b n → FillsHeight (max a b + 1) (m + n)
fork_enough a b m n balanced full_left full_right =
    let half : (max a b + 1 + 1) / 2 ≡ suc (max a b / 2) = omega arith in
    let in_left : max a b / 2 ≤ (a + 1) / 2 = omega arith in
    let in_right : max a b / 2 ≤ (b + 1) / 2 = omega arith in
    let power_left : 2 ^ (max a b / 2) ≤ 2 ^ ((a + 1) / 2) = pow_mono in_left in
    let power_right : 2 ^ (max a b / 2) ≤ 2 ^ ((b + 1) / 2) = pow_mono in_right in
    rw (half, pow-suc) (omega arith)
