use Rattle.std.proofs.Common.{◌≡◌, ◌<◌, length, sym, ap, subst, ◌∙◌}
use Rattle.std.specs.Prelude.{All}
use Rattle.edi_tables.specs.Rows.{IsTable}
use Rattle.edi_tables.specs.Walk.{groups_round}
use Rattle.edi_tables.proofs.GroupLaws.{groups_within}
use Rattle.edi_tables.proofs.TableLaws.{table_laws}
use Rattle.edi_tables.proofs.table.Table.groups_round.Goals as goal

pub returns-clause-within : goal.returns-clause-within
returns-clause-within c =
    let value : groups_round c.deref.result.now c.args.i ≡ groups_round c.args.self.now c.args.i = ap (λ made. groups_round made c.args.i) (c.deref.ensures.value ∙ c.self.view_is) in
    subst (All (λ g. g < length c.args.self.now)) (sym value) (groups_within c.args.self.now (table_laws c.args.self.now (subst IsTable c.self.view_is c.self.invariant)) c.args.i)
