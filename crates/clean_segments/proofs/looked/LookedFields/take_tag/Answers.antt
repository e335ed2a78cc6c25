use Rattle.std.proofs.Common.{sym, ◌∙◌}
use Rattle.clean_segments.proofs.LookLemmas.{front-none}
use Rattle.clean_segments.proofs.looked.LookedFields.take_tag.Goals as goal

pub returns-clause-after : goal.returns-clause-after
returns-clause-after c =
    sym (front-none 0 _ (c.is_past.ensures c.if-not-is_past.false)) ∙ c.in-Ok-Some-len3.ensures.after
