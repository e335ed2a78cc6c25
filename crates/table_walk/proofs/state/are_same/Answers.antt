use Rattle.table_walk.proofs.Sameness.{pairs_same}
use Rattle.table_walk.proofs.state.are_same.Goals as goal

pub returns : goal.returns
returns c = pairs_same c.args.one.now c.args.other.now c.eq.result c.eq.ensures
