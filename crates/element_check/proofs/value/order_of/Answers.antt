use Rattle.std.proofs.Common.{◌∙◌}
use Rattle.element_check.proofs.CodeLemmas.{longer-after}
use Rattle.element_check.proofs.value.order_of.Goals as goal

pub returns-in-len1-up-rest : goal.returns-in-len1-up-rest
returns-in-len1-up-rest g c =
    longer-after c.loop-octet.rest.now c.loop-octet.octet-iterator c.in-len1-up-rest.len_at_least c.in-None.ensures.steps.0 ∙ c.loop-octet.invariant
