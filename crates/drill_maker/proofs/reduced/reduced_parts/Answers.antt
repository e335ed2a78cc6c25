use Rattle.std.proofs.Common.{rules}
use Rattle.drill_maker.specs.Reduced.{reduced}
use Rattle.drill_maker.proofs.ReducedLemmas.{faultless}
use Rattle.drill_maker.proofs.reduced.reduced_parts.Goals as goal

pub returns-clause-faultless : goal.returns-clause-faultless
unfolding reduced
returns-clause-faultless c = faultless _ (search rules)
