use Rattle.std.proofs.lemmas.Result.{MatchResult-weaker, on_ok_weaker}
use Rattle.contrl_match.proofs.Answering.{answer-passed, answer-refused}
use Rattle.contrl_match.proofs.SmallSites.{all-small}
use Rattle.contrl_match.proofs.lead.judge_reply.Goals as goal

pub returns-clause-small : goal.returns-clause-small
returns-clause-small c = on_ok_weaker c.judge.result (λ none. all-small c.args.directory.now c.args.octets.now c.in_ok-reply.reply c.in_ok-reply.ensures none) c.judge.ensures.clean

pub returns-clause-passed : goal.returns-clause-passed
returns-clause-passed c = on_ok_weaker c.judge.result (λ passed. answer-passed c.args.directory.now c.args.octets.now c.in_ok-reply.reply c.in_ok-reply.ensures passed) c.judge.ensures.passed

pub returns-clause-refused : goal.returns-clause-refused
returns-clause-refused c = MatchResult-weaker c.judge.result c.judge.ensures.refused (λ x is. is) (λ e refused. answer-refused c.args.directory.now c.args.octets.now c.in_ok-reply.reply c.in_ok-reply.ensures e refused)
