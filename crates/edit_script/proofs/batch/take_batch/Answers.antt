use Rattle.std.proofs.lemmas.Result.{err_from_is_err_and}
use Rattle.edit_script.specs.declared.name.Name.TheVariants.{Batch}
use Rattle.edit_script.specs.Rest.{IsRestText, IsEditsText}
use Rattle.edit_script.specs.Texts.{IsNumberText}
use Rattle.edit_script.proofs.ChainLemmas.{reads_first, reads_next, reads_next_halt}
use Rattle.edit_script.proofs.GrammarLemmas.{batch_chain}
use Rattle.edit_script.proofs.batch.take_batch.Goals as goal

pub returns-in_err-count-clause-reads : goal.returns-in_err-count-clause-reads
returns-in_err-count-clause-reads g c =
    let p = err_from_is_err_and c.from_residual.result c.from_residual.ensures.1 in
    rw (p.1, p.2) (reads_first (IsNumberText 1 16 10) IsEditsText (IsRestText Batch) _ batch_chain _ _ _ c.in_err-count.ensures.reads)

pub returns-in_err-edits-clause-reads : goal.returns-in_err-edits-clause-reads
returns-in_err-edits-clause-reads g c =
    let p = err_from_is_err_and c.from_residual-in_err-edits.result c.from_residual-in_err-edits.ensures.1 in
    rw (p.1, p.2) (reads_next_halt (IsNumberText 1 16 10) IsEditsText (IsRestText Batch) _ batch_chain _ _ _ c.in_ok-count.count _ c.in_ok-count.ensures.reads c.in_err-edits.ensures.reads)

pub returns-clause-reads : goal.returns-clause-reads
returns-clause-reads g c =
    reads_next (IsNumberText 1 16 10) IsEditsText (IsRestText Batch) _ batch_chain _ _ _ c.in_ok-count.count c.in_ok-edits.edits c.in_ok-count.ensures.reads c.in_ok-edits.ensures.reads
