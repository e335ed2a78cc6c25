use Rattle.edicheck_core.specs.Matched.{replied_to}
use Rattle.edicheck_core.proofs.MatchLemmas.{replied_to-steady}
use Rattle.edicheck_core.proofs.StepLemmas.{last_file, no_last_file}
use Rattle.edicheck_core.proofs.matched.match_reply.Goals as goal

pub returns-in-Ok-clause-due : goal.returns-in-Ok-clause-due
returns-in-Ok-clause-due g c =
    last_file (replied_to c.args.directory.now c.args.text.items) c.args.reply.now (g.S.Shelf.files c.args.shelf.now) c.in-Ok.octets.items _ c.tell_reply.result c.in-Ok.ensures.reads (rw c.deref.ensures.value at c.tell_reply.ensures)

pub returns-in-Ok-clause-steady : goal.returns-in-Ok-clause-steady
returns-in-Ok-clause-steady g c = λ steady. replied_to-steady c.args.directory.now c.args.text.items c.in-Ok.octets.items c.tell_reply.result (rw c.deref.ensures.value at c.tell_reply.ensures)

pub returns-in-Err-clause-due : goal.returns-in-Err-clause-due
returns-in-Err-clause-due g c =
    no_last_file (replied_to c.args.directory.now c.args.text.items) c.args.reply.now (g.S.Shelf.files c.args.shelf.now) _ c.in-Err.made c.in-Err.ensures.reads
