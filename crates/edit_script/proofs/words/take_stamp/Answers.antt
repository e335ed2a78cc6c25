use Rattle.std.proofs.lemmas.Result.{err_from_is_err_and}
use Rattle.edit_script.specs.Texts.{IsDigitsText, IsStampText}
use Rattle.edit_script.proofs.ChainLemmas.{reads_first, reads_next, reads_next_halt}
use Rattle.edit_script.proofs.PartLemmas.{stamp_chain}
use Rattle.edit_script.proofs.words.take_stamp.Goals as goal

pub returns-in_err-date-clause-reads : goal.returns-in_err-date-clause-reads
returns-in_err-date-clause-reads g c =
    let p = err_from_is_err_and c.from_residual.result c.from_residual.ensures.1 in
    rw (p.1, p.2) (reads_first (IsDigitsText 6 58) (λ date. IsDigitsText 4 32) IsStampText _ stamp_chain _ _ _ c.in_err-date.ensures.reads)

pub returns-in_err-time-clause-reads : goal.returns-in_err-time-clause-reads
returns-in_err-time-clause-reads g c =
    let p = err_from_is_err_and c.from_residual-in_err-time.result c.from_residual-in_err-time.ensures.1 in
    rw (p.1, p.2) (reads_next_halt (IsDigitsText 6 58) (λ date. IsDigitsText 4 32) IsStampText _ stamp_chain _ _ _ c.in_ok-date.date _ c.in_ok-date.ensures.reads c.in_err-time.ensures.reads)

pub returns-clause-reads : goal.returns-clause-reads
returns-clause-reads g c =
    reads_next (IsDigitsText 6 58) (λ date. IsDigitsText 4 32) IsStampText _ stamp_chain _ _ _ c.in_ok-date.date c.in_ok-time.time c.in_ok-date.ensures.reads c.in_ok-time.ensures.reads
