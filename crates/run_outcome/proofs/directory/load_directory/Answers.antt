use Rattle.run_outcome.proofs.OpeningLemmas.{unloaded}
use Rattle.run_outcome.proofs.directory.load_directory.Goals as goal

pub returns-in-Err-Refused-clause-loads : goal.returns-in-Err-Refused-clause-loads
returns-in-Err-Refused-clause-loads g c =
    unloaded c.args.manifest.now (g.S.Shelf.files c.args.shelf.now) c.in-Err-Refused.why _ c.refuse.result
    (rw c.in-Err-Refused.field-0-is at c.in-Err-Refused.ensures.loads) c.refuse.ensures
