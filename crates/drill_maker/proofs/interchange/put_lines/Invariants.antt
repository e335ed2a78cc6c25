use Rattle.std.proofs.Common.{◌≡◌, ◌++◌}
use Rattle.drill_maker.specs.Interchange.{lines_text}
use Rattle.drill_maker.proofs.interchange.put_lines.Given as goal

abbrev pub invariant-loop-j : goal.invariant-loop-j
invariant-loop-j l = l.out ≡ l.fn.out ++ lines_text l.i l.j
