use Rattle.std.proofs.Common.{◌≡◌, ◌≤◌}
use Rattle.text_tests.proofs.seq_tree_calls.expect_marked_counted.Given as goal

abbrev pub invariant-loop-rank : goal.invariant-loop-rank
invariant-loop-rank g l = (l.way.0 ≡ l.whole) × (l.way.1 ≤ l.last)
