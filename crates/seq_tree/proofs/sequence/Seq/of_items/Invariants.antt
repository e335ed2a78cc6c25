use Rattle.std.proofs.Common.{◌≡◌}
use Rattle.seq_tree.proofs.sequence.Seq.of_items.Given as goal

abbrev pub invariant-loop-item : goal.invariant-loop-item
invariant-loop-item g l = l.gathered ≡ l.yielded
