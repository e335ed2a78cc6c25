use Rattle.std.proofs.Common.{◌≡◌}
use Rattle.seq_tree.proofs.Passing.{IsPassing}
use Rattle.seq_tree.proofs.marks.next_leaf.Given as goal

abbrev pub invariant-loop-tree : goal.invariant-loop-tree
invariant-loop-tree g l = record {
  passing : IsPassing g.T.Measured.measure g.T.Measured.marks l.rank l.fn.before l.fn.pending.0 l.before l.pending.0;
  uncounted : l.visited ≡ l.fn.visited;
}

abbrev pub decreases-loop-tree : goal.decreases-loop-tree
decreases-loop-tree g l = l.pending.1
