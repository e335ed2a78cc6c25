use Rattle.clean_segments.specs.Looked.{looked_left}
use Rattle.clean_segments.proofs.PlainLemmas.{from-first}
use Rattle.clean_segments.proofs.looked.LookedFields.of.Goals as goal

pub returns-clause-left : goal.returns-clause-left
unfolding looked_left
returns-clause-left c = from-first c.args.kinds.now.separators c.args.octets.now
