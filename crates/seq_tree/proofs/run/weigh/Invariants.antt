use Rattle.std.proofs.Common.{◌≡◌, ◌*◌, ◌≤◌, take, sum_by}
use Rattle.seq_tree.proofs.run.weigh.Given as goal

abbrev pub invariant-loop-item : goal.invariant-loop-item
invariant-loop-item g l = (l.total ≡ sum_by g.T.Measured.measure (take l.item-index l.items)) × (l.total ≤ 4294967295 * l.item-index)
