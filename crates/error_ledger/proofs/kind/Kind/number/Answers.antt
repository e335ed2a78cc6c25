use Rattle.error_ledger.proofs.KindLemmas.{number_of-variant}
use Rattle.error_ledger.proofs.kind.Kind.number.Goals as goal

pub returns : goal.returns
returns c = number_of-variant c.args.self
