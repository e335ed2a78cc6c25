use Rattle.std.proofs.Common.{sym, ◌∙◌}
use Rattle.element_check.proofs.StreamLemmas.{is_list_named-none}
use Rattle.element_check.proofs.element.is_list_name_filled.Goals as goal

pub returns-in_default : goal.returns-in_default
returns-in_default g c = sym (c.loop-part.invariant ∙ is_list_named-none _ _ c.in_default.ensures.value.0)
