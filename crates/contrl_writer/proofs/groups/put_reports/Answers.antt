use Rattle.std.proofs.Common.{sym, ◌∙◌}
use Rattle.contrl_writer.specs.Contrl.{report_where}
use Rattle.contrl_writer.specs.Levels.{message_errors}
use Rattle.contrl_writer.proofs.GroupLemmas.{flat-end, flat-step}
use Rattle.contrl_writer.proofs.groups.put_reports.Goals as goal

pub loop-message-preserved : goal.loop-message-preserved
loop-message-preserved c =
    flat-step (λ m. report_where m (message_errors m c.args.errors.now)) c.loop-message.out c.put_report_where.new.out c.args.messages.now c.loop-message.message-index c.message-item.result
    c.loop-message-test.true c.message-item.is c.in_ok-put_report_where.ensures ∙ c.loop-message.invariant

pub returns : goal.returns
returns c =
    sym (flat-end (λ m. report_where m (message_errors m c.args.errors.now)) c.loop-message.out c.args.messages.now c.loop-message.message-index c.loop-message-test.false) ∙ c.loop-message.invariant
