use Rattle.std.proofs.Common.{◌∙◌, List, length, sym, ap, subst}
use Rattle.envelope_check.specs.Head.{Head}
use Rattle.envelope_check.specs.Heads.{Fits}
use Rattle.kept_text.specs.Reading.{Reading}
use Rattle.segment_records.specs.Segments.{segments_of_text}
use Rattle.segment_records.specs.Heads.{heads_of, marks_of}
use Rattle.segment_records.proofs.Headed.{count_marks, fits_are}
use Rattle.edi_engine.proofs.errors.judge_envelopes.Goals as goal

pub envelope_errors-requires-clause-fits : goal.envelope_errors-requires-clause-fits
envelope_errors-requires-clause-fits c =
    let dir = c.args.kept.now.directory in
    let segments = segments_of_text c.args.kept.now.text in
    subst (λ (heads : List Head). Fits heads (marks_of (segments_of_text c.of-marks.result.kept.now.text))) (sym (c.deref.ensures.value ∙ c.requires))
    (subst (λ (r : Reading). Fits (heads_of dir segments) (marks_of (segments_of_text r.text))) (sym c.of-marks.ensures) (fits_are dir segments))

pub envelope_errors-requires-clause-total : goal.envelope_errors-requires-clause-total
envelope_errors-requires-clause-total c =
    c.segment_count.ensures ∙ count_marks c.args.kept.now.text
    ∙ ap (λ (r : Reading). length (marks_of (segments_of_text r.text))) (sym c.of-marks.ensures)
