use Rattle.dir_compile.specs.declared.parts.Parts.{Parts}
use Rattle.edicheck_c.specs.Told.{opened_with_script}
use Rattle.edicheck_c.specs.Script.{IsReplied}
use Rattle.edicheck_c.proofs.ToldLemmas.{relation_opened}
use Rattle.edicheck_c.proofs.script.tell_script.Goals as goal

pub returns-in-Ok : goal.returns-in-Ok
returns-in-Ok c =
    relation_opened (λ (d : Parts). IsReplied d c.args.text.now c.args.script.now)
    (opened_with_script c.args.store.now c.args.text.now c.args.script.now) c.in-Ok.directory c.replies_by.result
    c.in-Ok.ensures.opened c.replies_by.ensures
