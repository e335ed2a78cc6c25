use Rattle.std.proofs.Common.{sym, ◌∙◌}
use Rattle.clean_segments.proofs.LookLemmas.{front-none}
use Rattle.clean_segments.proofs.look.is_composite_clean.Goals as goal

pub returns-in-Ok-None-clause-after : goal.returns-in-Ok-None-clause-after
returns-in-Ok-None-clause-after c passed = sym (front-none c.args.element _ (rw c.in-Ok-None.field-0-is at c.in-Ok-None.ensures.value).1) ∙ c.in-Ok-None.ensures.after

pub returns-in-Ok-Some-empty-2-clause-after : goal.returns-in-Ok-Some-empty-2-clause-after
returns-in-Ok-Some-empty-2-clause-after c passed = sym (front-none c.args.element _ (c.is_past.ensures c.if-is_past.true)) ∙ c.in-Ok-Some-empty-2.ensures-1.after
