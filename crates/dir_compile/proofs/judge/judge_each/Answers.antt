use Rattle.std.proofs.Common.{arith}
use Rattle.std.proofs.lemmas.Result.{err_from_is_err_and}
use Rattle.dir_compile.proofs.Faults.{judges_there}
use Rattle.dir_compile.proofs.judge.judge_each.Goals as goal

pub returns-in_err-judge : goal.returns-in_err-judge
returns-in_err-judge g c =
    let p = err_from_is_err_and c.from_residual.result c.from_residual.ensures.1 in
    judges_there (g.T.Judged.faults c.args.parts.now) _ _ _ c.args.items.now _ c.item-item.result (omega arith) c.item-item.is c.loop-item.invariant c.in_err-judge.ensures p.1 p.2
