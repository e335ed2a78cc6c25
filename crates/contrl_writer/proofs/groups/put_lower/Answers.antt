use Rattle.std.proofs.Common.{List, ap, ◌∙◌}
use Rattle.contrl_segments.specs.declared.summary.MessageHead.{MessageHead}
use Rattle.contrl_writer.specs.Contrl.{group_answer, group_answers, reports_of}
use Rattle.contrl_writer.specs.Levels.{first_error, group_errors}
use Rattle.contrl_writer.specs.Lower.{with_segments}
use Rattle.contrl_writer.proofs.GroupLemmas.{numbered-step}
use Rattle.contrl_writer.proofs.groups.put_lower.Goals as goal

pub loop-i-preserved : goal.loop-i-preserved
loop-i-preserved c =
    let es = c.args.errors.now in
    let g = c.index-groups-i.result in
    numbered-step (group_answers es c.args.messages.now) c.loop-i.out c.put_group.new.out c.args.groups.now c.loop-i.i g c.loop-i-test.true c.index-groups-i.is
    (c.in_ok-put_group.ensures
    ∙ ap (λ (ms : List MessageHead). with_segments c.loop-i.out (group_answer g (first_error (group_errors g es)) (reports_of es ms))) (c.of_group.ensures ∙ c.in_ok-members.ensures c.loop-i.i))
    ∙ c.loop-i.invariant
