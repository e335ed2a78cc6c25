use Rattle.std.proofs.Common.{◌≡◌, ap, subst, ◌∙◌}
use Rattle.edi_tables.specs.Rows.{IsTable}
use Rattle.edi_tables.specs.Walk.{end_at}
use Rattle.edi_tables.proofs.Reaching.{round_before, round_past}
use Rattle.edi_tables.proofs.table.Table.is_round.Goals as goal

pub returns-then-group-i : goal.returns-then-group-i
returns-then-group-i c =
    let nodes = c.args.self.now in
    let end : c.end_at.result ≡ end_at nodes c.args.group =
    c.end_at.ensures ∙ ap (end_at c.deref.result.now) c.from.ensures ∙ ap (λ made. end_at made c.args.group) (c.deref.ensures.value ∙ c.self.view_is) in
    round_before nodes (subst IsTable c.self.view_is c.self.invariant) c.args.i c.args.group c.end_at.result c.requires.within c.if-group-i.true end

pub returns-else-group-i : goal.returns-else-group-i
returns-else-group-i c =
    round_past c.args.self.now (subst IsTable c.self.view_is c.self.invariant) c.args.i c.args.group c.requires.within c.if-group-i.false
