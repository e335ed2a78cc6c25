use Rattle.std.proofs.Common.{◌≡◌, drop, take}
use Rattle.contrl_writer.specs.Lower.{details_at, with_segments}
use Rattle.contrl_writer.proofs.report.put_details.Given as goal

abbrev pub invariant-loop-x : goal.invariant-loop-x
invariant-loop-x l = with_segments l.out (take l.left (details_at (drop l.x-index l.errors))) ≡ with_segments l.fn.out (take 99 (details_at l.errors))
