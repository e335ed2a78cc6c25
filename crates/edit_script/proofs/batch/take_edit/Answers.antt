use Rattle.std.proofs.Common.{[], ◌∷◌}
use Rattle.std.proofs.lemmas.Result.{err_from_is_err_and}
use Rattle.edit_script.specs.declared.name.Name.TheVariants.{Replace}
use Rattle.edit_script.specs.Rest.{IsEditRest, IsEditText}
use Rattle.edit_script.specs.Texts.{IsNameText}
use Rattle.edit_script.proofs.ChainLemmas.{reads_first, reads_rest}
use Rattle.edit_script.proofs.EditLemmas.{edit_chain}
use Rattle.edit_script.proofs.batch.take_edit.Goals as goal

pub returns-in_err-take_listed-clause-reads : goal.returns-in_err-take_listed-clause-reads
returns-in_err-take_listed-clause-reads g c =
    let p = err_from_is_err_and c.from_residual.result c.from_residual.ensures.1 in
    rw (p.1, p.2) (reads_first (IsNameText (Replace ∷ [])) (λ name. IsEditRest) IsEditText _ edit_chain _ _ _ c.in_err-take_listed.ensures.reads)

pub returns-clause-reads : goal.returns-clause-reads
returns-clause-reads g c =
    reads_rest (IsNameText (Replace ∷ [])) (λ name. IsEditRest) IsEditText edit_chain _ _ _ c.in_ok-take_listed.field-0 _ c.in_ok-take_listed.ensures.reads c.take_spec.ensures.reads
