use Rattle.std.proofs.Common.{◌≡◌, take, map}
use Rattle.dir_compile.proofs.names.index.Given as goal

abbrev pub invariant-loop-item : goal.invariant-loop-item
invariant-loop-item g l = l.set.keys ≡ take l.item-index (map g.T.Named.name_of l.items)
