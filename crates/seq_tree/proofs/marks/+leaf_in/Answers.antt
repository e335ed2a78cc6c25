use Rattle.std.proofs.Common.{◌≡◌, ◌++◌, rules}
use Rattle.seq_tree.proofs.Passing.{next_after_left}
use Rattle.seq_tree.proofs.marks.+leaf_in.Goals as goal

pub returns-else-rank-before-clause-leaf : goal.returns-else-rank-before-clause-leaf
returns-else-rank-before-clause-leaf g t c =
    let same : c.args.tree.now.0 ≡ c.deref-in-Fork.result.now.left.0 ++ c.deref-in-Fork-2.result.now.right.0 = search rules in
    next_after_left g.T.Measured.measure g.T.Measured.marks c.args.rank c.args.before.now c.after_tree-in-Fork.result c.args.tree.now.0 c.deref-in-Fork.result.now.left.0 c.deref-in-Fork-2.result.now.right.0 c.args.pending.now.0
    c.leaf_in-in-Fork.new.before c.leaf_in-in-Fork.result.run.now c.leaf_in-in-Fork.new.pending.0
    same c.after_tree-in-Fork.ensures.further c.leaf_in-in-Fork.ensures.leaf
