use Rattle.std.proofs.Common.{◌≡◌, ◌++◌, map, take, drop}
use Rattle.dir_compile.specs.InOrder.{ordered_list}
use Rattle.dir_compile.proofs.order.order_each.Given as goal

abbrev pub invariant-loop-list : goal.invariant-loop-list
invariant-loop-list l = l.lists ≡ map ordered_list (take l.list-index l.initial.lists) ++ drop l.list-index l.initial.lists
