use Rattle.std.proofs.Common.{◌∷◌, [], None, Option, map, sym, ap, ◌∙◌}
use Rattle.std.specs.List.{flat_map}
use Rattle.std.proofs.lemmas.Result.{on_ok_weaker}
use Rattle.error_ledger.specs.declared.error.ErrorLine.{ErrorLine}
use Rattle.contrl_writer.specs.declared.lower.Lower.{Lower}
use Rattle.contrl_writer.specs.declared.members.Member.{Member}
use Rattle.contrl_writer.specs.Contrl.{reports_of}
use Rattle.contrl_segments.specs.Service.{acknowledged, ucf}
use Rattle.contrl_segments.specs.Lent.{action_for}
use Rattle.contrl_writer.specs.Levels.{first_error, group_errors}
use Rattle.contrl_writer.specs.Lower.{with_segments}
use Rattle.contrl_writer.proofs.GroupLemmas.{flat-end, flat-step, found-is, found-some, group-acknowledged, group-rejected, group-untold, member_report}
use Rattle.contrl_writer.proofs.LowerLemmas.{with_segments-append, with_segments-nil}
use Rattle.contrl_writer.proofs.groups.put_group.Goals as goal

pub returns-then-is_some : goal.returns-then-is_some
returns-then-is_some c =
    let es = c.args.errors.now in
    let g = c.args.group.now in
    let reports = reports_of es (map (λ (x : Member). x.message.now) c.args.members.now) in
    let told = found-is es c.among.result.now g c.first_told-error.result c.is_some.result c.among.ensures.errors c.first_told-error.ensures c.is_some.ensures in
    let some = found-some es c.among.result.now g c.first_told-error.result c.is_some.result c.among.ensures.errors c.first_told-error.ensures c.is_some.ensures in
    on_ok_weaker c.put_ucf.result
    (λ put. put
    ∙ ap (with_segments c.args.out.now)
    (ap (λ (e : Option ErrorLine). ucf g (action_for e) e ∷ []) told ∙ sym (group-rejected es g (first_error (group_errors g es)) reports (some ∙ c.if-is_some.true))))
    c.put_ucf.ensures

pub returns-then-not-have_error : goal.returns-then-not-have_error
returns-then-not-have_error c =
    let es = c.args.errors.now in
    let g = c.args.group.now in
    let some = found-some es c.among.result.now g c.first_told-error.result c.is_some.result c.among.ensures.errors c.first_told-error.ensures c.is_some.ensures in
    sym (ap (with_segments c.args.out.now) (group-untold es g (first_error (group_errors g es)) c.args.members.now (some ∙ c.if-is_some.false) (sym c.have_error.ensures ∙ c.if-not-have_error.true))
    ∙ with_segments-nil c.args.out.now)

pub loop-member-preserved : goal.loop-member-preserved
loop-member-preserved c =
    flat-step (member_report c.args.errors.now) c.loop-member.out c.put_report_where.new.out c.args.members.now c.loop-member.member-index c.member-item.result
    c.loop-member-test.true c.member-item.is c.in_ok-put_report_where.ensures ∙ c.loop-member.invariant

pub returns : goal.returns
returns c =
    let es = c.args.errors.now in
    let g = c.args.group.now in
    let reports = flat_map (member_report es) c.args.members.now in
    let some = found-some es c.among.result.now g c.first_told-error.result c.is_some.result c.among.ensures.errors c.first_told-error.ensures c.is_some.ensures in
    sym (flat-end (member_report es) c.loop-member.out c.args.members.now c.loop-member.member-index c.loop-member-test.false)
    ∙ (c.loop-member.invariant
    ∙ (ap (λ (w : Lower). with_segments w reports) c.in_ok-put_ucf.ensures
    ∙ (with_segments-append c.args.out.now (ucf g acknowledged None ∷ []) reports
    ∙ ap (with_segments c.args.out.now)
    (sym (group-acknowledged es g (first_error (group_errors g es)) c.args.members.now (some ∙ c.if-is_some.false) (sym c.have_error.ensures ∙ c.if-not-have_error.false))))))
