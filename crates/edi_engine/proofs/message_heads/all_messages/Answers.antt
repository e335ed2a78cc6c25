use Rattle.std.proofs.Common.{◌≡◌, ◌∙◌}
use Rattle.std.proofs.lemmas.Result.{IfOk-weaker}
use Rattle.segment_records.specs.Segments.{segments_of_text}
use Rattle.text_reading.specs.Summary.{messages_in}
use Rattle.edi_engine.proofs.Asked.{all_asked}
use Rattle.edi_engine.proofs.message_heads.all_messages.Goals as goal

pub returns : goal.returns
returns c =
    let messages = messages_in (segments_of_text c.args.kept.now.text) in
    IfOk-weaker c.messages_of.result _ (λ list. list.items ≡ messages) (λ list is. is ∙ all_asked messages) c.messages_of.ensures
