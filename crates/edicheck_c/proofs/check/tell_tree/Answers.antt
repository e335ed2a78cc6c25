use Rattle.edicheck_c.specs.Told.{tree_told, opened_by_store}
use Rattle.edicheck_c.proofs.ToldLemmas.{told_opened}
use Rattle.edicheck_c.proofs.check.tell_tree.Goals as goal

pub returns-in-Ok : goal.returns-in-Ok
returns-in-Ok c =
    told_opened (tree_told c.args.text.now) (opened_by_store c.args.store.now c.args.text.now) c.in-Ok.directory c.tree_by.result
    c.in-Ok.ensures.opened c.tree_by.ensures
