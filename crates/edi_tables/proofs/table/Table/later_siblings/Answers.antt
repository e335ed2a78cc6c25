use Rattle.std.proofs.Common.{◌≡◌, ◌<◌, length, sym, ap, subst, ◌∙◌}
use Rattle.std.specs.Prelude.{All}
use Rattle.edi_tables.specs.Rows.{IsTable}
use Rattle.edi_tables.specs.Walk.{later_siblings}
use Rattle.edi_tables.proofs.Within.{siblings_within}
use Rattle.edi_tables.proofs.table.Table.later_siblings.Goals as goal

pub returns-clause-within : goal.returns-clause-within
returns-clause-within c =
    let value : later_siblings c.deref.result.now c.args.i ≡ later_siblings c.args.self.now c.args.i = ap (λ made. later_siblings made c.args.i) (c.deref.ensures.value ∙ c.self.view_is) in
    subst (All (λ j. j < length c.args.self.now)) (sym value) (siblings_within c.args.self.now (subst IsTable c.self.view_is c.self.invariant) c.args.i c.requires)
