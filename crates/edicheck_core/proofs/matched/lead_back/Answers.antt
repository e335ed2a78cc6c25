use Rattle.edicheck_core.proofs.MatchLemmas.{matched_by}
use Rattle.edicheck_core.proofs.matched.lead_back.Goals as goal

pub returns : goal.returns
returns c =
    matched_by (λ v. v.items) c.in_ok-engine.engine c.args.directory.now c.args.text.items c.args.reply.now c.match_contrl.result c.in_ok-engine.ensures c.match_contrl.ensures.found c.match_contrl.ensures.stop
