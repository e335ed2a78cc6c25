use Rattle.edicheck_core.specs.About.{checked_text}
use Rattle.edicheck_core.specs.Form.{Errors}
use Rattle.edicheck_core.proofs.SteadyLemmas.{answer_about-steady}
use Rattle.edicheck_core.proofs.StepLemmas.{last_file, no_last_file}
use Rattle.edicheck_core.proofs.guided.check_named.Goals as goal

pub returns-in-Ok-clause-due : goal.returns-in-Ok-clause-due
returns-in-Ok-clause-due g c =
    last_file (checked_text c.args.directory.now) c.args.text.now (g.S.Shelf.files c.args.shelf.now) c.in-Ok.octets.items _ c.tell_check.result c.in-Ok.ensures.reads (rw c.deref.ensures.value at c.tell_check.ensures)

pub returns-in-Ok-clause-steady : goal.returns-in-Ok-clause-steady
returns-in-Ok-clause-steady g c = λ steady. answer_about-steady Errors c.args.directory.now c.in-Ok.octets.items c.tell_check.result (rw c.deref.ensures.value at c.tell_check.ensures)

pub returns-in-Err-clause-due : goal.returns-in-Err-clause-due
returns-in-Err-clause-due g c =
    no_last_file (checked_text c.args.directory.now) c.args.text.now (g.S.Shelf.files c.args.shelf.now) _ c.in-Err.made c.in-Err.ensures.reads
