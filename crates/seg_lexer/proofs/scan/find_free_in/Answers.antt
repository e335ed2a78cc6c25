use Rattle.std.proofs.Common.{length, sym, ◌∙◌, arith}
use Rattle.std.proofs.lemmas.List.Edits.{length-between}
use Rattle.seg_lexer.proofs.ScanLemmas.{found-there, none-before, none-there}
use Rattle.seg_lexer.proofs.scan.find_free_in.Goals as goal

pub returns-then-not-is_released_in : goal.returns-then-not-is_released_in
returns-then-not-is_released_in c =
    let first = c.in-Some.ensures.0 in
    let high = first.high in
    let len = length-between c.args.part.now c.loop-k.at (length c.args.part.now) (omega arith) in
    found-there _ _ _ _ _ c.loop-k.invariant.none c.in-Some.k first.before c.in-Some.ensures.1 (omega arith) (sym c.is_released_in.ensures ∙ c.if-not-is_released_in.true)

pub loop-k-preserved : goal.loop-k-preserved
loop-k-preserved c =
    let first = c.in-Some.ensures.0 in
    let high = first.high in
    let len = length-between c.args.part.now c.loop-k.at (length c.args.part.now) (omega arith) in
    record {
      high = omega arith;
      none = none-there _ _ _ _ _ c.loop-k.invariant.none c.in-Some.k (omega arith) first.before (sym c.is_released_in.ensures ∙ c.if-not-is_released_in.false);
    }

pub returns : goal.returns
returns c =
    let high = c.loop-k.invariant.high in
    let len = length-between c.args.part.now c.loop-k.at (length c.args.part.now) (omega arith) in
    λ k low below. none-before _ _ _ _ _ c.loop-k.invariant.none _ (omega arith) c.in_default.ensures k low (omega arith)
