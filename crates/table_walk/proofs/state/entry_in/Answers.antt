use Rattle.std.proofs.Common.{sym}
use Rattle.table_walk.proofs.PairReads.{entry_at_last}
use Rattle.table_walk.proofs.state.entry_in.Goals as goal

pub returns-in-Some : goal.returns-in-Some
returns-in-Some c = sym (entry_at_last c.args.pairs.now c.in-Some.pair.now (sym c.in-Some.ensures.value))
