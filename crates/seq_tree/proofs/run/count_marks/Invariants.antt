use Rattle.std.proofs.Common.{◌≡◌, ◌≤◌, take, sum_by}
use Rattle.seq_tree.proofs.run.count_marks.Given as goal

abbrev pub invariant-loop-item : goal.invariant-loop-item
invariant-loop-item g l = (l.marks ≡ sum_by g.T.Measured.marks (take l.item-index l.items)) × (l.marks ≤ l.item-index)
