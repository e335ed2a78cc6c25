use Rattle.std.proofs.lemmas.Result.{on_ok_weaker}
use Rattle.listing_printer.proofs.ValuesLemmas.{values-lines}
use Rattle.listing_printer.proofs.text.put_segment.Goals as goal

pub returns-in-Values : goal.returns-in-Values
returns-in-Values c =
    on_ok_weaker c.put_values.result
    (λ put. rw c.in-Values.is (values-lines c.args.service.now c.args.text.now.octets.now c.args.number (record { from = c.args.start; to = c.args.end }) _ _ _ _ _ c.fields.ensures.components c.read_tag-tag.ensures c.in_ok-put_line.ensures put))
    c.put_values.ensures
