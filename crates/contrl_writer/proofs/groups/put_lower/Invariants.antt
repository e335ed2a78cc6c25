use Rattle.std.proofs.Common.{◌≡◌, drop}
use Rattle.std.specs.List.{enumerate_from, flat_map}
use Rattle.contrl_writer.specs.Contrl.{group_answers}
use Rattle.contrl_writer.specs.Lower.{with_segments}
use Rattle.contrl_writer.proofs.groups.put_lower.Given as goal

abbrev pub invariant-loop-i : goal.invariant-loop-i
invariant-loop-i l =
    with_segments l.out (flat_map (group_answers l.errors l.messages) (enumerate_from l.i (drop l.i l.groups)))
    ≡ with_segments l.fn.out (flat_map (group_answers l.errors l.messages) (enumerate_from 0 l.groups))
