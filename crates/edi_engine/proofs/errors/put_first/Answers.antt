use Rattle.std.proofs.Common.{◌++◌, ◌∙◌, ℕ, List, ap, subst, sym}
use Rattle.std.specs.List.{slice_get}
use Rattle.std.specs.Prelude.{All}
use Rattle.std.proofs.lemmas.Result.{on_ok_weaker}
use Rattle.error_ledger.specs.declared.error.ErrorLine.{ErrorLine}
use Rattle.segment_records.specs.WalkedSegments.{LiesIn, SeenSegment, seen_in}
use Rattle.text_reading.specs.Errors.{first_segment, syntax_lines}
use Rattle.edi_engine.proofs.Ends.{first_is, first_lies}
use Rattle.edi_engine.proofs.errors.put_first.Goals as goal

pub put_syntax-requires-clause-within : goal.put_syntax-requires-clause-within
put_syntax-requires-clause-within c =
    first_lies c.whole.result c.segments.result c.next.new.self c.next.result c.next.ensures.steps
    (subst (λ (text : List ℕ). All (LiesIn text) c.segments.result) (sym c.whole.ensures.text) c.segments.ensures.inside)

pub returns : goal.returns
returns c =
    let dir = c.args.kept.now.directory in
    let first = first_is c.segments.result c.next.new.self c.next.result c.next.ensures.steps
    ∙ ap (λ (xs : List SeenSegment). slice_get xs 0) c.segments.ensures.segments
    ∙ ap (λ (text : List ℕ). slice_get (seen_in dir text) 0) (sym c.whole.ensures.text) in
    on_ok_weaker c.put_syntax.result
    (λ put. put ∙ ap (λ (text : List ℕ). c.args.list.now.items ++ syntax_lines (first_segment text)) c.whole.ensures.text)
    (c.put_syntax.ensures dir c.segments.ensures.lawful first)
