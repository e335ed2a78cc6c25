use Rattle.edicheck_core.specs.Form.{question_shown}
use Rattle.edicheck_core.proofs.OpeningLemmas.{asked_opened, asked_unopened}
use Rattle.edicheck_core.proofs.SteadyLemmas.{answer_about-steady}
use Rattle.edicheck_core.proofs.about.tell_about.Goals as goal

pub returns-in-Ok-clause-due : goal.returns-in-Ok-clause-due
returns-in-Ok-clause-due g c =
    asked_opened (question_shown c.args.question) c.args.manifest.now c.args.text.now (g.S.Shelf.files c.args.shelf.now) c.in-Ok.opening.directory c.in-Ok.opening.text.items _ c.tell.result
    c.in-Ok.ensures.opening c.tell.ensures

pub returns-in-Ok-clause-steady : goal.returns-in-Ok-clause-steady
returns-in-Ok-clause-steady g c =
    λ steady. answer_about-steady (question_shown c.args.question) c.in-Ok.opening.directory c.in-Ok.opening.text.items c.tell.result c.tell.ensures

pub returns-in-Err-clause-due : goal.returns-in-Err-clause-due
returns-in-Err-clause-due g c =
    asked_unopened (question_shown c.args.question) c.args.manifest.now c.args.text.now (g.S.Shelf.files c.args.shelf.now) _ _ c.in-Err.ensures.opening
