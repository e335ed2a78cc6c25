use Rattle.edicheck.proofs.CommandLemmas.{script_leads}
use Rattle.edicheck.proofs.place.Place.start.Goals as goal

pub returns-clause-back : goal.returns-clause-back
returns-clause-back c = script_leads
