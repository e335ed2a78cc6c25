use Rattle.std.proofs.Common.{◌≡◌, ◌++◌}
use Rattle.drill_maker.specs.Interchange.{messages_text}
use Rattle.drill_maker.proofs.interchange.put_messages.Given as goal

abbrev pub invariant-loop-i : goal.invariant-loop-i
invariant-loop-i l = l.out ≡ l.fn.out ++ messages_text l.i l.x
