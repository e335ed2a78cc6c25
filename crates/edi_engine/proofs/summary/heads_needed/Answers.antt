use Rattle.std.proofs.Common.{◌≡◌, ◌∙◌, List, length, sym, ap, rules}
use Rattle.std.specs.Prelude.{filter}
use Rattle.error_ledger.specs.declared.error.ErrorLine.{ErrorLine}
use Rattle.contrl_writer.specs.Needed.{is_touched}
use Rattle.segment_records.specs.Segments.{segments_of_text}
use Rattle.text_reading.specs.Summary.{messages_in}
use Rattle.edi_engine.proofs.Asked.{no_errors, none_touched}
use Rattle.edi_engine.proofs.summary.heads_needed.Goals as goal

pub returns-then-is_empty-clause-messages : goal.returns-then-is_empty-clause-messages
returns-then-is_empty-clause-messages c =
    let messages = messages_in (segments_of_text c.args.kept.now.text) in
    let few : length c.args.errors.now ≡ 0 = search rules in
    c.new-then-is_empty.ensures.items
    ∙ sym (ap (λ (es : List ErrorLine). filter (is_touched es) messages) (no_errors c.args.errors.now few) ∙ none_touched messages)
