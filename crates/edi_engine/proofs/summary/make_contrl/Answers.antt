use Rattle.std.proofs.Common.{◌≡◌, ◌∙◌, ap}
use Rattle.std.proofs.lemmas.Result.{IfOk-weaker}
use Rattle.contrl_writer.specs.Contrl.{answer_to}
use Rattle.contrl_segments.specs.declared.summary.Summary.{Summary}
use Rattle.text_reading.specs.Summary.{contrl_to, summary_of}
use Rattle.text_reading.proofs.CleanLaws.{answer_clean}
use Rattle.contrl_writer.proofs.NeededLemmas.{answer_needed}
use Rattle.edi_engine.proofs.summary.make_contrl.Goals as goal

pub returns-clause-answer : goal.returns-clause-answer
unfolding contrl_to
returns-clause-answer c =
    let summary = summary_of c.args.kept.now.directory c.args.kept.now.text in
    IfOk-weaker c.write_contrl.result _ (λ answer. answer ≡ answer_to summary c.args.stamp.now c.args.reference.now)
    (λ answer is. is ∙ ap (λ (s : Summary). answer_to s c.args.stamp.now c.args.reference.now) c.in_ok-summary.ensures.summary ∙ answer_needed summary c.args.stamp.now c.args.reference.now)
    c.write_contrl.ensures.answer

pub returns-clause-clean : goal.returns-clause-clean
unfolding contrl_to
returns-clause-clean c =
    let summary = summary_of c.args.kept.now.directory c.args.kept.now.text in
    answer_clean c.args.kept.now.directory c.in_ok-summary.ensures.lawful c.args.kept.now.text c.args.stamp.now c.args.reference.now c.requires.stamp c.requires.reference c.write_contrl.result
    (IfOk-weaker c.write_contrl.result _ (λ answer. answer ≡ answer_to summary c.args.stamp.now c.args.reference.now)
    (λ answer is. is ∙ ap (λ (s : Summary). answer_to s c.args.stamp.now c.args.reference.now) c.in_ok-summary.ensures.summary ∙ answer_needed summary c.args.stamp.now c.args.reference.now)
    c.write_contrl.ensures.answer)
