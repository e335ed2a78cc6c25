use Rattle.std.proofs.Common.{◌≡◌, List, IfOk, subst}
use Rattle.contrl_match.specs.Printing.{findings_text}
use Rattle.contrl_match.specs.declared.finding.Finding.{Finding}
use Rattle.edicheck_core.proofs.MatchLemmas.{replied_found, replied_not}
use Rattle.edicheck_core.proofs.matched.tell_reply.Goals as goal

pub returns-in-Ok : goal.returns-in-Ok
returns-in-Ok c =
    let printed = subst (λ (list : List Finding). IfOk c.print_findings.result (λ text. text ≡ findings_text list)) c.deref.ensures.value c.print_findings.ensures in
    replied_found c.print_findings.result c.args.directory.now c.args.text.items c.args.reply.now c.in-Ok.findings.items c.lines.result c.in-Ok.ensures printed c.lines.ensures

pub returns-in-Err : goal.returns-in-Err
returns-in-Err c =
    replied_not c.in-Err.why c.args.directory.now c.args.text.items c.args.reply.now c.tell_unmatched.result c.in-Err.ensures c.tell_unmatched.ensures
