use Rattle.std.proofs.lemmas.Result.{err_from_is_err_and}
use Rattle.edit_script.specs.Texts.{IsNumberText, IsDataText, IsPutText}
use Rattle.edit_script.proofs.ChainLemmas.{reads_first, reads_rest}
use Rattle.edit_script.proofs.PartLemmas.{put_chain}
use Rattle.edit_script.proofs.data.take_put.Goals as goal

pub returns-in_err-size-clause-reads : goal.returns-in_err-size-clause-reads
returns-in_err-size-clause-reads g c =
    let p = err_from_is_err_and c.from_residual.result c.from_residual.ensures.1 in
    rw (p.1, p.2) (reads_first (IsNumberText 0 4194304 10) IsDataText IsPutText _ put_chain _ _ _ c.in_err-size.ensures.reads)

pub returns-clause-reads : goal.returns-clause-reads
returns-clause-reads g c =
    reads_rest (IsNumberText 0 4194304 10) IsDataText IsPutText put_chain _ _ _ c.in_ok-size.size _ c.in_ok-size.ensures.reads c.take_data.ensures.reads
