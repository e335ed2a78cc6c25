use Rattle.std.proofs.lemmas.Result.{err_from_is_err_and}
use Rattle.edit_script.specs.Rest.{IsEditRest}
use Rattle.edit_script.specs.Texts.{IsNumberText, IsPutText}
use Rattle.edit_script.proofs.ChainLemmas.{reads_first, reads_next, reads_next_halt}
use Rattle.edit_script.proofs.EditLemmas.{IsCutText, cut_chain, edit_rest_chain}
use Rattle.edit_script.proofs.batch.take_spec.Goals as goal

pub returns-in_err-at-clause-reads : goal.returns-in_err-at-clause-reads
returns-in_err-at-clause-reads g c =
    let p = err_from_is_err_and c.from_residual.result c.from_residual.ensures.1 in
    rw (p.1, p.2) (reads_first (IsNumberText 0 9999999999999999999 32) (λ at. IsCutText) IsEditRest _ edit_rest_chain _ _ _ c.in_err-at.ensures.reads)

pub returns-in_err-cut-clause-reads : goal.returns-in_err-cut-clause-reads
returns-in_err-cut-clause-reads g c =
    let p = err_from_is_err_and c.from_residual-in_err-cut.result c.from_residual-in_err-cut.ensures.1 in
    let next = reads_first (IsNumberText 0 9999999999999999999 32) (λ cut. IsPutText) IsCutText _ cut_chain _ _ _ c.in_err-cut.ensures.reads in
    rw (p.1, p.2) (reads_next_halt (IsNumberText 0 9999999999999999999 32) (λ at. IsCutText) IsEditRest _ edit_rest_chain _ _ _ c.in_ok-at.at _ c.in_ok-at.ensures.reads next)

pub returns-in_err-put-clause-reads : goal.returns-in_err-put-clause-reads
returns-in_err-put-clause-reads g c =
    let p = err_from_is_err_and c.from_residual-in_err-put.result c.from_residual-in_err-put.ensures.1 in
    let next = reads_next_halt (IsNumberText 0 9999999999999999999 32) (λ cut. IsPutText) IsCutText _ cut_chain _ _ _ c.in_ok-cut.cut _ c.in_ok-cut.ensures.reads c.in_err-put.ensures.reads in
    rw (p.1, p.2) (reads_next_halt (IsNumberText 0 9999999999999999999 32) (λ at. IsCutText) IsEditRest _ edit_rest_chain _ _ _ c.in_ok-at.at _ c.in_ok-at.ensures.reads next)

pub returns-clause-reads : goal.returns-clause-reads
returns-clause-reads g c =
    let next = reads_next (IsNumberText 0 9999999999999999999 32) (λ cut. IsPutText) IsCutText _ cut_chain _ _ _ c.in_ok-cut.cut c.in_ok-put.put c.in_ok-cut.ensures.reads c.in_ok-put.ensures.reads in
    reads_next (IsNumberText 0 9999999999999999999 32) (λ at. IsCutText) IsEditRest _ edit_rest_chain _ _ _ c.in_ok-at.at _ c.in_ok-at.ensures.reads next
