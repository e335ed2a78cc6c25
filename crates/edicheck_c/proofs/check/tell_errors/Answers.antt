use Rattle.edicheck_c.specs.Told.{errors_told, opened_by_store}
use Rattle.edicheck_c.proofs.ToldLemmas.{told_opened}
use Rattle.edicheck_c.proofs.check.tell_errors.Goals as goal

pub returns-in-Ok : goal.returns-in-Ok
returns-in-Ok c =
    told_opened (errors_told c.args.text.now) (opened_by_store c.args.store.now c.args.text.now) c.in-Ok.directory c.errors_by.result
    c.in-Ok.ensures.opened c.errors_by.ensures
