use Rattle.std.proofs.Common.{◌≡◌, ◌++◌, ◌∙◌, ℕ, List, Option, ap, arith, get_or, length, sym}
use Rattle.std.proofs.lemmas.Result.{on_ok_weaker}
use Rattle.error_ledger.specs.declared.error.ErrorLine.{ErrorLine}
use Rattle.seg_lexer.specs.Context.{context_of}
use Rattle.seg_lexer.specs.Segments.{boundaries_of, ends_of, tail_of}
use Rattle.seg_lexer.specs.Service.{service_of}
use Rattle.seg_lexer.specs.declared.context.Context.{Context}
use Rattle.seg_lexer.specs.declared.service.Service.{Service}
use Rattle.segment_records.specs.Count.{segment_count_of}
use Rattle.text_reading.specs.Errors.{advice_lines, tail_lines}
use Rattle.text_reading.proofs.Bounds.{few_counted}
use Rattle.edi_engine.proofs.Ends.{last_by, tail_by}
use Rattle.edi_engine.proofs.checked.put_ends.Goals as goal

pub put_tail-requires-clause-last : goal.put_tail-requires-clause-last
put_tail-requires-clause-last c =
    let text = c.text.result.now in
    let service = c.context.result.now.service in
    let read_by : service ≡ (context_of text).service =
    ap (λ (context : Context). context.service) c.context.ensures.context
    ∙ ap (λ (text : List ℕ). (context_of text).service) (sym c.text.ensures.text) in
    last_by text service read_by c.last_boundary.result
    (c.last_boundary.ensures ∙ ap (λ (text : List ℕ). get_or (boundaries_of (service_of text) text) (length (ends_of (service_of text) text)) 0) (sym c.text.ensures.text))

pub put_tail-requires-clause-few : goal.put_tail-requires-clause-few
put_tail-requires-clause-few c = omega (arith, c.passed.ensures.within, few_counted c.args.segments.now.text, c.text.ensures.short)

pub returns : goal.returns
returns c =
    let text = c.args.segments.now.text in
    let old = c.args.list.now.items in
    let advice = advice_lines (context_of text).service.sound in
    let read_by : c.context.result.now.service ≡ (context_of text).service = ap (λ (context : Context). context.service) c.context.ensures.context in
    let tail : tail_of c.context.result.now.service c.text.result.now ≡ tail_of (service_of text) text =
    ap (tail_of c.context.result.now.service) c.text.ensures.text ∙ tail_by text c.context.result.now.service read_by in
    let count = c.passed.ensures.passed ∙ c.requires in
    on_ok_weaker c.put_tail.result
    (λ put. put
    ∙ ap (λ (xs : List ErrorLine). xs ++ tail_lines c.passed.result (tail_of c.context.result.now.service c.text.result.now))
    (c.in_ok-put_advice.ensures ∙ ap (λ (service : Service). old ++ advice_lines service.sound) read_by)
    ∙ ap (λ (n : ℕ). (old ++ advice) ++ tail_lines n (tail_of c.context.result.now.service c.text.result.now)) count
    ∙ ap (λ (o : Option ℕ). (old ++ advice) ++ tail_lines (segment_count_of text) o) tail)
    c.put_tail.ensures
