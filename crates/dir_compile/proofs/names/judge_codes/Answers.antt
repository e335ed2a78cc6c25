use Rattle.std.proofs.Common.{arith, subst}
use Rattle.std.proofs.lemmas.Result.{err_from_is_err_and}
use Rattle.dir_compile.specs.Compile.{twice_in, value_name}
use Rattle.dir_compile.specs.Judges.{IsFirstFault}
use Rattle.dir_compile.proofs.Faults.{judges_there}
use Rattle.dir_compile.proofs.names.judge_codes.Goals as goal

pub returns-in_err-judge_names : goal.returns-in_err-judge_names
returns-in_err-judge_names c =
    let p = err_from_is_err_and c.from_residual.result c.from_residual.ensures.1 in
    let first = subst (λ codes. IsFirstFault c.in_err-judge_names.field-0.0 (twice_in value_name codes)) c.items.ensures c.in_err-judge_names.ensures in
    judges_there (λ list. twice_in value_name list.values) _ _ _ c.args.lists.now _ c.list-item.result (omega arith) c.list-item.is c.loop-list.invariant first p.1 p.2
