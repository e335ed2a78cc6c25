use Rattle.std.proofs.Common.{◌≡◌, ◌++◌}
use Rattle.table_walk.proofs.position.gather.Given as goal

abbrev pub invariant-loop-node : goal.invariant-loop-node
invariant-loop-node l = l.list.items ++ l.node-iterator ≡ l.fn.nodes
