use Rattle.std.proofs.Common.{◌≡◌, ◌*◌, ◌<◌, ◌≤◌, length, take, sum_by}
use Rattle.seq_tree.specs.Items.{EachEntry, IsMarkedPlace}
use Rattle.seq_tree.proofs.items.Items.of.Given as goal

abbrev pub invariant-loop-place : goal.invariant-loop-place
invariant-loop-place g l = record {
  total : l.total ≡ sum_by g.T.Measured.measure (take l.place l.fn.list.items);
  bound : l.total ≤ 4294967295 * l.place;
  weights : EachEntry l.weights.items (λ i weight. weight ≡ sum_by g.T.Measured.measure (take i l.fn.list.items));
  first : length l.weights.items < l.place → 65535 < sum_by g.T.Measured.measure (take (length l.weights.items) l.fn.list.items);
  no_more : length l.weights.items ≤ l.place;
  marked : EachEntry l.marked.items (IsMarkedPlace g.T.Measured.marks l.fn.list.items);
  marks : length l.marked.items ≡ sum_by g.T.Measured.marks (take l.place l.fn.list.items);
  most : length l.marked.items ≤ l.place;
}
