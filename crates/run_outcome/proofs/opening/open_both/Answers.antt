use Rattle.run_outcome.proofs.PutLemmas.{risen_later}
use Rattle.run_outcome.proofs.OpeningLemmas.{opened_no_directory, opening_met}
use Rattle.run_outcome.proofs.opening.open_both.Goals as goal

pub returns-in-Ok-clause-opening : goal.returns-in-Ok-clause-opening
returns-in-Ok-clause-opening g c =
    opening_met c.args.manifest.now c.args.text.now (g.S.Shelf.files c.args.shelf.now) (g.S.Shelf.files c.load_directory.new.shelf) c.in-Ok.directory _ _ c.open_text.result
    c.in-Ok.ensures.loads c.load_directory.ensures.files (λ risen. risen_later _ _ _ c.load_directory.ensures.fair.counted risen) c.open_text.ensures.directory c.open_text.ensures.text

pub returns-in-Err-clause-opening : goal.returns-in-Err-clause-opening
returns-in-Err-clause-opening g c =
    opened_no_directory c.args.manifest.now c.args.text.now (g.S.Shelf.files c.args.shelf.now) _ c.in-Err.unloaded c.in-Err.ensures.loads
