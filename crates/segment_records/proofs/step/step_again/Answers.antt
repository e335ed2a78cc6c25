use Rattle.std.proofs.Common.{Some, sym, subst, ◌+◌, ◌∙◌}
use Rattle.std.specs.Prelude.{codes}
use Rattle.edi_tables.specs.Rows.{has_name}
use Rattle.table_walk.specs.Steps.{AreCountsUpTo, IsShaped}
use Rattle.segment_records.specs.Messages.{nodes_at}
use Rattle.segment_records.proofs.Taking.{mode_unless}
use Rattle.segment_records.proofs.step.step_again.Goals as goal

pub returns-clause-mode : goal.returns-clause-mode
returns-clause-mode c = λ directory most is mode.
    let known = c.args.known.now in
    let after = sym (c.of_few.ensures ∙ c.copy.ensures) in
    mode_unless directory (most + 1) known.table c.of_few.result (has_name (codes "UNT") (Some known.tag)) c.unless_closed.result c.unless_closed.ensures mode.0
    (subst (IsShaped (nodes_at directory known.table)) after is.shaped) (subst (AreCountsUpTo (most + 1)) after (is.counts most mode.2))
