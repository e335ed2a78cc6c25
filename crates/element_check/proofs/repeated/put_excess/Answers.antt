use Rattle.std.proofs.Common.{sym, ap, ◌∙◌}
use Rattle.edi_tables.specs.Rows.{when}
use Rattle.error_ledger.specs.declared.kind.Kind.TheVariants.{TooManyRepetitions}
use Rattle.element_check.specs.Local.{error_at}
use Rattle.element_check.specs.Merging.{merged}
use Rattle.element_check.proofs.MergeLemmas.{merged-no_fresh}
use Rattle.element_check.proofs.repeated.put_excess.Goals as goal

pub returns-then-not-excess-clause-ok : goal.returns-then-not-excess-clause-ok
returns-then-not-excess-clause-ok c =
    sym (ap (λ e. merged c.args.all.now (when e (error_at c.args.element 0 TooManyRepetitions))) c.if-not-excess.true ∙ merged-no_fresh c.args.all.now)
