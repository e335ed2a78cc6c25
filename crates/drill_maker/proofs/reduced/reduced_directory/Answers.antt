use Rattle.drill_maker.proofs.ReducedLemmas.{compiled}
use Rattle.drill_maker.proofs.reduced.reduced_directory.Goals as goal

pub returns-in-Ok : goal.returns-in-Ok
returns-in-Ok c = compiled c.in_ok-reduced_parts.field-0 c.in-Ok.directory c.in_ok-reduced_parts.ensures.parts c.in-Ok.ensures.answers
