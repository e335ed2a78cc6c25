use Rattle.std.proofs.Common.{◌≡◌, take}
use Rattle.edi_engine.proofs.heads.lend_heads.Given as goal

abbrev pub invariant-loop-head : goal.invariant-loop-head
invariant-loop-head l = l.lent.items ≡ take l.head-index l.heads
