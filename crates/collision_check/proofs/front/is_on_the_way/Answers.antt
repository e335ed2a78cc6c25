use Rattle.std.proofs.Common.{◌≡◌, false, sym, ap, ◌∙◌}
use Rattle.std.specs.Prelude.{◌||◌, ◌&&◌, nat_eq}
use Rattle.std.specs.List.{list_all, list_any}
use Rattle.edi_tables.specs.Walk.{is_must_at, groups_round}
use Rattle.edi_tables.proofs.NodeReads.{is_must_at_is}
use Rattle.collision_check.proofs.front.is_on_the_way.Goals as goal

pub returns-then-not-is_round : goal.returns-then-not-is_round
returns-then-not-is_round c =
    let nodes = c.args.table.now in
    let must : is_must_at nodes c.in-Some.group ≡ false =
    ap (is_must_at nodes) (sym c.from-in-loop-group.ensures) ∙ is_must_at_is nodes c.from-in-loop-group.result c.node.result.now c.node.ensures ∙ c.if-not-node.true in
    let round : list_any (nat_eq c.in-Some.group) (groups_round nodes c.args.entry) ≡ false = sym c.is_round.ensures ∙ c.if-not-is_round.true in
    sym (sym c.loop-group.invariant ∙ ap (list_all (λ g. is_must_at nodes g || list_any (nat_eq g) (groups_round nodes c.args.entry))) c.in-Some.ensures.steps
    ∙ ap (λ b. (b || list_any (nat_eq c.in-Some.group) (groups_round nodes c.args.entry)) && list_all (λ g. is_must_at nodes g || list_any (nat_eq g) (groups_round nodes c.args.entry)) c.next.new.self) must
    ∙ ap (λ b. b && list_all (λ g. is_must_at nodes g || list_any (nat_eq g) (groups_round nodes c.args.entry)) c.next.new.self) round)
