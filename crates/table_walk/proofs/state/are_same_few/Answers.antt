use Rattle.std.proofs.Common.{◌≡◌, ℕ, List, Decides, subst}
use Rattle.table_walk.proofs.Sameness.{pairs_same}
use Rattle.table_walk.proofs.state.are_same_few.Goals as goal

pub returns : goal.returns
returns c =
    let decided : Decides c.eq.result (c.as_slice.result.now ≡ c.as_slice-2.result.now) = pairs_same c.as_slice.result.now c.as_slice-2.result.now c.eq.result c.eq.ensures in
    subst (λ (xs : List (ℕ × ℕ)). Decides c.eq.result (xs ≡ c.args.other.now)) c.as_slice.ensures
    (subst (λ (ys : List (ℕ × ℕ)). Decides c.eq.result (c.as_slice.result.now ≡ ys)) c.as_slice-2.ensures decided)
