use Rattle.std.proofs.Common.{◌≡◌, ◌++◌, ◌∙◌, ℕ, List, ap, refl, subst, sym}
use Rattle.std.specs.List.{slice_get}
use Rattle.std.specs.List.Sorted.{IsPermutation}
use Rattle.std.specs.Option.{option_map}
use Rattle.std.specs.Prelude.{IfSome}
use Rattle.dir_compile.specs.declared.parts.Parts.{Parts}
use Rattle.envelope_check.specs.Envelope.{envelope_errors_of}
use Rattle.error_ledger.specs.Order.{in_order}
use Rattle.error_ledger.specs.declared.error.ErrorLine.{ErrorLine}
use Rattle.seg_lexer.specs.Context.{context_of}
use Rattle.seg_lexer.specs.Segments.{tail_of}
use Rattle.seg_lexer.specs.Service.{service_of}
use Rattle.segment_records.specs.Count.{segment_count_of}
use Rattle.segment_records.specs.Heads.{heads_of, marks_of}
use Rattle.segment_records.specs.Look.{seen_of}
use Rattle.segment_records.specs.Segments.{segments_of_text}
use Rattle.segment_records.specs.WalkedSegments.{LiesIn, seen_in}
use Rattle.text_reading.specs.Errors.{advice_lines, errors_found, errors_of, first_segment, syntax_lines, tail_lines}
use Rattle.text_reading.proofs.Bounds.{gathered}
use Rattle.edi_engine.proofs.Telling.{hand_lies}
use Rattle.edi_engine.proofs.checked.check_all.Goals as goal
use Rattle.edi_engine.proofs.checked.check_all.Goals.{In_ok-order_errors}

pub put_syntax-requires-clause-within : goal.put_syntax-requires-clause-within
put_syntax-requires-clause-within c =
    subst (λ (t : List ℕ). IfSome c.at_hand.result (λ first. LiesIn t (seen_of first))) (sym c.text.ensures.text)
    (hand_lies c.args.segments.now.directory c.args.segments.now.text c.requires.lawful c.text.ensures.short c.args.segments.now.passed c.at_hand.result c.at_hand.ensures)

-- the errors before they are ordered
found : (c : In_ok-order_errors) → c.put_lines-2.new.list.items ≡ errors_found c.args.segments.now.directory c.args.segments.now.text
found c =
    let dir = c.args.segments.now.directory in
    let text = c.args.segments.now.text in
    let first : option_map seen_of c.at_hand.result ≡ slice_get (seen_in dir c.text.result.now) 0 =
    c.at_hand.ensures ∙ ap (slice_get (seen_in dir text)) c.requires.fresh
    ∙ ap (λ (t : List ℕ). slice_get (seen_in dir t) 0) (sym c.text.ensures.text) in
    let syntax : c.put_syntax.new.list.items ≡ syntax_lines (first_segment text) =
    c.in_ok-put_syntax.ensures dir c.requires.lawful first
    ∙ ap (λ (xs : List ErrorLine). xs ++ syntax_lines (first_segment c.text.result.now)) c.new-syntax.ensures.items
    ∙ ap (λ (t : List ℕ). syntax_lines (first_segment t)) c.text.ensures.text in
    let errors = c.in_ok-errors.errors.items in
    let passed = c.tell_all.new.segments in
    let envelopes : errors ≡ envelope_errors_of (heads_of dir (segments_of_text text)) (marks_of (segments_of_text text)) =
    c.in_ok-errors.ensures
    ∙ ap (λ (d : Parts). envelope_errors_of (heads_of d (segments_of_text passed.text)) (marks_of (segments_of_text passed.text))) c.in_ok-tree.ensures.directory
    ∙ ap (λ (t : List ℕ). envelope_errors_of (heads_of dir (segments_of_text t)) (marks_of (segments_of_text t))) c.in_ok-tree.ensures.text in
    let ends = c.in_ok-put_ends.ensures
    ∙ ap (λ (t : List ℕ). errors ++ advice_lines (context_of t).service.sound ++ tail_lines (segment_count_of t) (tail_of (service_of t) t)) c.in_ok-tree.ensures.text in
    gathered dir text errors (errors ++ advice_lines (context_of text).service.sound) c.put_ends.new.list.items c.put_lines.new.list.items c.put_lines-2.new.list.items
    envelopes refl ends
    (c.in_ok-put_lines.ensures ∙ ap (λ lines. c.put_ends.new.list.items ++ lines) syntax)
    (c.in_ok-put_lines-2.ensures ∙ ap (λ lines. c.put_lines.new.list.items ++ lines) c.in_ok-tree.ensures.lines)

pub returns-clause-errors : goal.returns-clause-errors
unfolding errors_of
returns-clause-errors c = c.in_ok-order_errors.ensures.ordered ∙ ap in_order (found (goal.at.returns-clause-errors c).In_ok-order_errors)

pub returns-clause-same : goal.returns-clause-same
returns-clause-same c =
    subst (λ (xs : List ErrorLine). IsPermutation xs c.order_errors.new.list.items) (found (goal.at.returns-clause-same c).In_ok-order_errors) c.in_ok-order_errors.ensures.same
