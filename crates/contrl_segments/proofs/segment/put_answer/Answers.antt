use Rattle.std.proofs.Common.{rules}
use Rattle.std.proofs.lemmas.List.{append_assoc}
use Rattle.contrl_segments.proofs.TextLemmas.{answer_text}
use Rattle.contrl_segments.proofs.segment.put_answer.Goals as goal

pub returns-clause-ok : goal.returns-clause-ok
returns-clause-ok c = rw (c.in-Some.is, answer_text c.args.tag c.args.subject.now c.in-Some.error.now) (search (rules, append_assoc))
