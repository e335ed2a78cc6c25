use Rattle.std.proofs.Common.{◌≡◌, ◌++◌, ◌∙◌, ℕ, List, Option, ap, arith, get_or, length, sym}
use Rattle.std.proofs.lemmas.Result.{on_ok_weaker}
use Rattle.error_ledger.specs.declared.error.ErrorLine.{ErrorLine}
use Rattle.seg_lexer.specs.Context.{context_of}
use Rattle.seg_lexer.specs.Segments.{boundaries_of, ends_of, tail_of}
use Rattle.seg_lexer.specs.Service.{service_of}
use Rattle.seg_lexer.specs.declared.service.Service.{Service}
use Rattle.segment_records.specs.Count.{segment_count_of}
use Rattle.text_reading.specs.Errors.{advice_lines, tail_lines}
use Rattle.text_reading.proofs.Bounds.{few_counted}
use Rattle.edi_engine.proofs.Ends.{last_by, tail_by}
use Rattle.edi_engine.proofs.errors.put_ends.Goals as goal

pub put_tail-requires-clause-last : goal.put_tail-requires-clause-last
put_tail-requires-clause-last c =
    let text = c.whole.result in
    let service = c.service-service.result.now in
    let read_by : service ≡ (context_of text).service =
    c.service-service.ensures.service ∙ ap (λ (text : List ℕ). (context_of text).service) (sym c.whole.ensures.text) in
    last_by text service read_by c.last_boundary.result
    (c.last_boundary.ensures ∙ ap (λ (text : List ℕ). get_or (boundaries_of (service_of text) text) (length (ends_of (service_of text) text)) 0) (sym c.whole.ensures.text))

pub put_tail-requires-clause-few : goal.put_tail-requires-clause-few
put_tail-requires-clause-few c = omega (arith, few_counted c.args.kept.now.text, c.whole.ensures.short, ap length c.whole.ensures.text, c.segment_count.ensures)

pub returns : goal.returns
returns c =
    let text = c.args.kept.now.text in
    let old = c.args.list.now.items in
    let advice = advice_lines (context_of text).service.sound in
    let service = c.service-service.result.now in
    let read_by : service ≡ (context_of text).service = c.service-service.ensures.service in
    let tail : tail_of service c.whole.result ≡ tail_of (service_of text) text =
    ap (tail_of service) c.whole.ensures.text ∙ tail_by text service read_by in
    on_ok_weaker c.put_tail.result
    (λ put. put
    ∙ ap (λ (xs : List ErrorLine). xs ++ tail_lines c.segment_count.result (tail_of service c.whole.result))
    (c.in_ok-put_advice.ensures ∙ ap (λ (service : Service). old ++ advice_lines service.sound) read_by)
    ∙ ap (λ (n : ℕ). (old ++ advice) ++ tail_lines n (tail_of service c.whole.result)) c.segment_count.ensures
    ∙ ap (λ (o : Option ℕ). (old ++ advice) ++ tail_lines (segment_count_of text) o) tail)
    c.put_tail.ensures
