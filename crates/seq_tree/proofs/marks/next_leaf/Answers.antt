use Rattle.std.proofs.Common.{◌≡◌, ◌+◌, length, sym, ap, ◌∙◌, subst, arith}
use Rattle.std.proofs.lemmas.List.{length-append}
use Rattle.seq_tree.specs.Marks.{IsNextLeaf}
use Rattle.seq_tree.proofs.Heights.{visits_fit}
use Rattle.seq_tree.proofs.Passing.{passed_more}
use Rattle.seq_tree.proofs.marks.next_leaf.Goals as goal

pub returns-then-rank-before-clause-leaf : goal.returns-then-rank-before-clause-leaf
returns-then-rank-before-clause-leaf g c =
    c.loop-tree.invariant.passing.found c.leaf_in.new.before c.leaf_in.result.run.now c.leaf_in.new.pending.0
    (subst (λ xs. IsNextLeaf g.T.Measured.measure g.T.Measured.marks c.args.rank c.loop-tree.before xs c.leaf_in.new.before c.leaf_in.result.run.now c.leaf_in.new.pending.0)
    (sym c.in-Some.ensures.items) c.leaf_in.ensures.leaf)

pub returns-then-rank-before-clause-cost : goal.returns-then-rank-before-clause-cost
returns-then-rank-before-clause-cost g c b short =
    let tree = c.in-Some.tree.now.0 in
    let count : length c.loop-tree.pending.0 ≡ length tree + length c.pop.new.self.0 = ap length c.in-Some.ensures.items ∙ length-append tree c.pop.new.self.0 in
    let low = visits_fit _ _ b c.leaf_in.ensures.low (omega (arith, count, c.loop-tree.invariant.passing.shorter, short)) in
    omega (arith, low, c.leaf_in.ensures.cost, c.loop-tree.invariant.uncounted)

pub loop-tree-preserved : goal.loop-tree-preserved
loop-tree-preserved g c = record {
  passing =
      passed_more g.T.Measured.measure g.T.Measured.marks c.args.rank c.args.before.now c.args.pending.now.0
      c.loop-tree.before c.after_tree.result c.loop-tree.pending.0 c.in-Some.tree.now.0 c.pop.new.self.0
      c.loop-tree.invariant.passing c.in-Some.ensures.items c.after_tree.ensures.further
      (omega (arith, c.if-rank-before.false, c.marks.ensures, c.loop-tree.invariant.passing.low)) c.after_tree.ensures.light;
  uncounted = c.loop-tree.invariant.uncounted;
}
