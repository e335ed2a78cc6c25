use Rattle.std.proofs.Common.{rules}
use Rattle.std.proofs.lemmas.List.{append_assoc}
use Rattle.contrl_segments.specs.Written.{segment_text}
use Rattle.contrl_segments.proofs.segment.put_segment.Goals as goal

pub returns-clause-ok : goal.returns-clause-ok
unfolding segment_text
returns-clause-ok c = search (rules, append_assoc)
