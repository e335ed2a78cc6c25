use Rattle.std.proofs.Common.{◌≡◌, List, ℕ, length, IfOk, subst, arith, length-append, ap}
use Rattle.std.specs.List.{concat}
use Rattle.piece_text.proofs.Concats.{halves_count, weld_is}
use Rattle.piece_text.proofs.pieces.weld.Goals as goal

pub run_of-requires : goal.run_of-requires
run_of-requires c =
    let front = halves_count c.args.front.now _ _ c.before_small_end.result c.in_ok-front.ensures.0 c.in_ok-front.ensures.1 in
    let back = halves_count c.args.back.now _ _ c.small_start.result c.in_ok-first.ensures.0 c.in_ok-first.ensures.1 in
    record { short = omega arith }

pub join_three-requires-clause-short : goal.join_three-requires-clause-short
join_three-requires-clause-short c =
    let front = halves_count c.args.front.now _ _ c.before_small_end.result c.in_ok-front.ensures.0 c.in_ok-front.ensures.1 in
    let back = halves_count c.args.back.now _ _ c.small_start.result c.in_ok-first.ensures.0 c.in_ok-first.ensures.1 in
    let run = simp length-append at (ap length c.in_ok-run.ensures.text) in
    omega arith

pub returns-clause-text : goal.returns-clause-text
returns-clause-text c =
    let is = weld_is c.args.front.now c.args.back.now _ _ _ _ c.in_ok-run.run' c.args.put.now c.before_small_end.result c.small_start.result c.in_ok-front.ensures.0 c.in_ok-front.ensures.1 c.in_ok-first.ensures.0 c.in_ok-first.ensures.1 c.in_ok-run.ensures.text in
    subst (λ (octets : List ℕ). IfOk c.join_three.result (λ pieces. concat pieces ≡ octets)) is c.join_three.ensures.text
