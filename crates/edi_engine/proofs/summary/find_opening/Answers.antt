use Rattle.std.proofs.Common.{◌≡◌, ◌∙◌, sym, ap}
use Rattle.std.specs.Prelude.{codes, slice_get}
use Rattle.std.proofs.lemmas.Result.{IfOk-weaker}
use Rattle.edi_tables.specs.Rows.{has_name}
use Rattle.seg_lexer.specs.Context.{context_of}
use Rattle.segment_records.specs.Segments.{segments_of_text}
use Rattle.segment_records.specs.Look.{seen_of}
use Rattle.text_reading.specs.Summary.{opening_in}
use Rattle.text_reading.proofs.Bounds.{none_left}
use Rattle.text_reading.proofs.Summed.{opening_none, opening_other, opening_read}
use Rattle.edi_engine.proofs.summary.find_opening.Goals as goal
use Rattle.edi_engine.proofs.summary.find_opening.Goals.{in_default-via-in-Some+else-is_named, in_default-via-in_default}

pub returns-in-Some-clause-opening : goal.returns-in-Some-clause-opening
returns-in-Some-clause-opening c =
    let dir = c.args.kept.now.directory in
    let text = c.args.kept.now.text in
    let seen = seen_of c.in-Some.first in
    let named = ap (has_name (codes "UNB")) (sym c.tag.ensures) ∙ sym c.is_named.ensures ∙ c.if-is_named.true in
    IfOk-weaker c.read_opening.result _ (λ opening. opening ≡ opening_in dir (context_of text) (slice_get (segments_of_text text) 0))
    (λ opening is. is ∙ opening_read dir c.segments.ensures.lawful text seen c.next.new.self (sym c.segments.ensures.segments ∙ c.in-Some.ensures.steps) named
    c.context.result.now c.whole.result c.context.ensures.context c.whole.ensures.text) c.read_opening.ensures

pub returns-in_default-clause-opening : goal.returns-in_default-clause-opening
returns-in_default-clause-opening c =
    let dir = c.args.kept.now.directory in
    let text = c.args.kept.now.text in
    elim c.in_default.branch [
      | in_default-via-in-Some+else-is_named w ↦
          let other = ap (has_name (codes "UNB")) (sym w.tag.ensures) ∙ sym w.is_named.ensures ∙ w.if-is_named.false in
          opening_other dir c.segments.ensures.lawful text (seen_of w.in-Some.first) c.next.new.self (sym c.segments.ensures.segments ∙ w.in-Some.ensures.steps) other
      | in_default-via-in_default w ↦
          opening_none dir c.segments.ensures.lawful text (sym c.segments.ensures.segments ∙ none_left c.segments.result c.next.new.self c.next.result w.in_default.is c.next.ensures.steps)
    ]
