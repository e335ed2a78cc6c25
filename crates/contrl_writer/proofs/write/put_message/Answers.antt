use Rattle.std.proofs.Common.{◌++◌, ◌+◌, List, Option, ap, ◌∙◌}
use Rattle.std.specs.Option.{option_copied}
use Rattle.error_ledger.specs.declared.error.ErrorLine.{ErrorLine}
use Rattle.contrl_writer.specs.declared.level.Levelled.{Levelled}
use Rattle.contrl_writer.specs.declared.lower.Lower.{Lower}
use Rattle.contrl_writer.specs.Contrl.{interchange_answer, lower_segments, message_of}
use Rattle.contrl_segments.specs.Service.{uci, unt}
use Rattle.contrl_writer.specs.Levels.{first_error, interchange_errors, levelled}
use Rattle.contrl_writer.specs.Lower.{segments_below, with_segments}
use Rattle.contrl_segments.specs.Written.{contrl_text, segment_text}
use Rattle.contrl_writer.proofs.MessageLemmas.{message-text}
use Rattle.contrl_writer.proofs.write.put_message.Goals as goal

pub returns : goal.returns
returns c =
    let s = c.args.summary.now in
    let told = uci c.args.sender.now c.args.recipient.now c.args.reference.now in
    let first = option_copied c.first_told-error.result in
    let es = c.in_ok-errors.errors in
    let lower = lower_segments es s.messages s.groups in
    let put = message-text c.args.text c.put_unh.new.out c.put_uci.new.out c.put_unt.new.out c.put_below.new.out told first lower c.count-count.result
    c.in_ok-put_unh.ensures.ok c.in_ok-put_uci.ensures.ok
    (c.in_ok-put_below.ensures ∙ ap (λ (w : Lower). with_segments w (segments_below first lower)) c.after-lower.ensures)
    c.count-count.ensures (c.in_ok-put_unt.ensures.ok ∙ ap (λ zs. zs ++ segment_text (unt (c.count-count.result + 3))) c.into_text-text.ensures) in
    put
    ∙ (ap (λ (e : Option ErrorLine). c.args.text ++ contrl_text (message_of (interchange_answer told e lower)))
    (c.first_told-error.ensures ∙ ap (λ (xs : List Levelled). first_error (interchange_errors xs)) (c.items.ensures ∙ c.in_ok-errors.ensures))
    ∙ ap (λ (xs : List Levelled). c.args.text ++ contrl_text (message_of (interchange_answer told (first_error (interchange_errors (levelled s))) (lower_segments xs s.messages s.groups)))) c.in_ok-errors.ensures)
