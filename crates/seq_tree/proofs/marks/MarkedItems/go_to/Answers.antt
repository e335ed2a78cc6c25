use Rattle.std.proofs.Common.{arith}
use Rattle.seq_tree.proofs.Through.{through_all, through_next}
use Rattle.seq_tree.proofs.marks.MarkedItems.go_to.Goals as goal

pub next_leaf-leaf-requires : goal.next_leaf-leaf-requires
next_leaf-leaf-requires g c =
    let way = c.self.invariant in
    let all = through_all g.T.Measured.measure g.T.Measured.marks _ _ _ _ _ way in
    grind (arith, all, way.inside, way.after.items)

pub invariant_of-self : goal.invariant_of-self
invariant_of-self g c =
    let found = c.next_leaf-leaf in
    through_next g.T.Measured.measure g.T.Measured.marks c.args.rank _ _ _ _ _ found.new.before found.result.run.now found.result.after found.new.pending.0
    c.self.invariant found.ensures.leaf found.ensures.after found.ensures.light
