use Rattle.std.proofs.Common.{List, sym, ap, ◌∙◌}
use Rattle.std.proofs.lemmas.Result.{on_ok_weaker}
use Rattle.contrl_writer.specs.declared.level.Levelled.{Levelled}
use Rattle.contrl_writer.specs.Lower.{told, with_segments}
use Rattle.contrl_writer.specs.Report.{report}
use Rattle.contrl_writer.proofs.GroupLemmas.{where-none, where-some}
use Rattle.contrl_writer.proofs.LowerLemmas.{with_segments-nil}
use Rattle.contrl_writer.proofs.groups.put_report_where.Goals as goal

pub returns-then-not-has_error : goal.returns-then-not-has_error
returns-then-not-has_error c =
    sym (ap (with_segments c.args.out.now) (where-none c.args.message.now c.args.errors.now (sym c.if-not-has_error.ensures)) ∙ with_segments-nil c.args.out.now)

pub returns : goal.returns
returns c =
    let m = c.args.message.now in
    on_ok_weaker c.put_report.result
    (λ put. put
    ∙ ap (with_segments c.args.out.now)
    (ap (λ (xs : List Levelled). report m (told xs)) c.among.ensures.errors ∙ sym (where-some m c.args.errors.now (sym c.if-not-has_error.ensures))))
    c.put_report.ensures
