use Rattle.std.proofs.Common.{◌≡◌, drop, take}
use Rattle.contrl_writer.specs.Lower.{heads_at, with_segments}
use Rattle.contrl_writer.proofs.report.put_heads.Given as goal

abbrev pub invariant-loop-x : goal.invariant-loop-x
invariant-loop-x l = with_segments l.out (take l.left (heads_at l.position (drop l.x-index l.errors))) ≡ with_segments l.fn.out (take l.most (heads_at l.position l.errors))
