use Rattle.std.proofs.lemmas.Result.{err_from_is_err_and}
use Rattle.dir_compile.proofs.Faults.{first-left, judges-same, judges-stop, judges-last}
use Rattle.dir_compile.proofs.Groups.{faults-apart}
use Rattle.dir_compile.proofs.verdict.judge_parts.Goals as goal

pub returns-in_err-judge_twice : goal.returns-in_err-judge_twice
returns-in_err-judge_twice c =
    let p = err_from_is_err_and c.from_residual.result c.from_residual.ensures.1 in
    judges-same _ _ _ (faults-apart c.args.parts.now) (judges-stop _ _ _ _ p.1 p.2 (first-left _ _ _ c.in_err-judge_twice.ensures))

pub of-requires-clause-apart : goal.of-requires-clause-apart
of-requires-clause-apart c = c.in_ok-judge_twice.ensures

pub returns : goal.returns
returns c = judges-same _ _ _ (faults-apart c.args.parts.now) (judges-last _ _ _ c.in_ok-judge_twice.ensures c.judge_references.ensures)
