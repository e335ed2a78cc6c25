use Rattle.std.proofs.Common.{arith, length-append}
use Rattle.std.proofs.lemmas.List.Sums.{sum_by-append}
use Rattle.seq_tree.proofs.Heights.{fork_enough}
use Rattle.seq_tree.proofs.tree.Tree.fork.Goals as goal

pub invariant_of-result : goal.invariant_of-result
invariant_of-result g c = (
  record {
    len = grind (arith, length-append);
    fits = grind arith;
    total = grind (arith, sum_by-append);
    bound = grind arith;
    marked = grind (arith, sum_by-append);
    most = grind arith;
    enough = grind (arith, fork_enough);
  },
  grind arith,
)
