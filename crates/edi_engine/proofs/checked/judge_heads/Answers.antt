use Rattle.std.proofs.Common.{◌∙◌, ℕ, List, ap, length, subst, sym}
use Rattle.envelope_check.specs.Head.{Head}
use Rattle.envelope_check.specs.Heads.{Fits}
use Rattle.segment_records.specs.Heads.{heads_of, marks_of}
use Rattle.segment_records.specs.Segments.{segments_of_text}
use Rattle.segment_records.proofs.Headed.{count_marks, fits_are}
use Rattle.edi_engine.proofs.checked.judge_heads.Goals as goal

pub envelope_errors-requires-clause-fits : goal.envelope_errors-requires-clause-fits
envelope_errors-requires-clause-fits c =
    let dir = c.args.segments.now.directory in
    let segments = segments_of_text c.args.segments.now.text in
    subst (λ (heads : List Head). Fits heads (marks_of (segments_of_text c.of-marks.result.octets.now)))
    (sym (c.deref.ensures.value ∙ c.in_ok-heads.ensures ∙ c.requires.heads))
    (subst (λ (text : List ℕ). Fits (heads_of dir segments) (marks_of (segments_of_text text))) (sym (c.of-marks.ensures ∙ c.text.ensures.text)) (fits_are dir segments))

pub envelope_errors-requires-clause-total : goal.envelope_errors-requires-clause-total
envelope_errors-requires-clause-total c =
    c.passed.ensures.passed ∙ c.requires.passed ∙ count_marks c.args.segments.now.text
    ∙ ap (λ (text : List ℕ). length (marks_of (segments_of_text text))) (sym (c.of-marks.ensures ∙ c.text.ensures.text))
