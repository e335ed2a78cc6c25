use Rattle.std.proofs.lemmas.Result.{err_from_is_err_and}
use Rattle.edit_script.proofs.GrammarLemmas.{replace_halts}
use Rattle.edit_script.proofs.reader.take_replace.Goals as goal

pub returns-in_err-at-clause-reads : goal.returns-in_err-at-clause-reads
returns-in_err-at-clause-reads g c =
    let p = err_from_is_err_and c.from_residual.result c.from_residual.ensures.1 in
    rw (p.1, p.2) (replace_halts _ _ _ c.in_err-at.ensures.reads)
