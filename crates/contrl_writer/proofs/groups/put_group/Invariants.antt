use Rattle.std.proofs.Common.{◌≡◌, drop}
use Rattle.std.specs.List.{flat_map}
use Rattle.contrl_writer.specs.Contrl.{report_where}
use Rattle.contrl_writer.specs.Levels.{message_errors}
use Rattle.contrl_writer.specs.Lower.{with_segments}
use Rattle.contrl_writer.proofs.groups.put_group.Given as goal

abbrev pub invariant-loop-member : goal.invariant-loop-member
invariant-loop-member l =
    with_segments l.out (flat_map (λ x. report_where x.message.now (message_errors x.message.now l.errors)) (drop l.member-index l.members))
    ≡ with_segments l.initial.out (flat_map (λ x. report_where x.message.now (message_errors x.message.now l.errors)) l.members)
