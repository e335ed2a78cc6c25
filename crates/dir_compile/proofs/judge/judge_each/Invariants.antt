use Rattle.std.proofs.Common.{◌≡◌, [], take}
use Rattle.std.specs.List.{flat_map}
use Rattle.dir_compile.proofs.judge.judge_each.Given as goal

abbrev pub invariant-loop-item : goal.invariant-loop-item
invariant-loop-item g l = flat_map (g.T.Judged.faults l.parts) (take l.item-index l.items) ≡ []
