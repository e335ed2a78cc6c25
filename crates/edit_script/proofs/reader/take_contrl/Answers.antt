use Rattle.std.proofs.lemmas.Result.{err_from_is_err_and}
use Rattle.edit_script.specs.declared.name.Name.TheVariants.{Contrl}
use Rattle.edit_script.specs.Rest.{IsRestText}
use Rattle.edit_script.specs.Texts.{IsStampText, IsReferenceText}
use Rattle.edit_script.proofs.ChainLemmas.{reads_first, reads_next, reads_next_halt}
use Rattle.edit_script.proofs.GrammarLemmas.{contrl_chain}
use Rattle.edit_script.proofs.reader.take_contrl.Goals as goal

pub returns-in_err-stamp-clause-reads : goal.returns-in_err-stamp-clause-reads
returns-in_err-stamp-clause-reads g c =
    let p = err_from_is_err_and c.from_residual.result c.from_residual.ensures.1 in
    rw (p.1, p.2) (reads_first IsStampText (λ stamp. IsReferenceText) (IsRestText Contrl) _ contrl_chain _ _ _ c.in_err-stamp.ensures.reads)

pub returns-in_err-reference-clause-reads : goal.returns-in_err-reference-clause-reads
returns-in_err-reference-clause-reads g c =
    let p = err_from_is_err_and c.from_residual-in_err-reference.result c.from_residual-in_err-reference.ensures.1 in
    rw (p.1, p.2) (reads_next_halt IsStampText (λ stamp. IsReferenceText) (IsRestText Contrl) _ contrl_chain _ _ _ c.in_ok-stamp.stamp _ c.in_ok-stamp.ensures.reads c.in_err-reference.ensures.reads)

pub returns-clause-reads : goal.returns-clause-reads
returns-clause-reads g c =
    reads_next IsStampText (λ stamp. IsReferenceText) (IsRestText Contrl) _ contrl_chain _ _ _ c.in_ok-stamp.stamp c.in_ok-reference.reference c.in_ok-stamp.ensures.reads c.in_ok-reference.ensures.reads
