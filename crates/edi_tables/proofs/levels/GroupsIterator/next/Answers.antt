use Rattle.std.proofs.Common.{◌≡◌, ◌∷◌, Some, None, length, sym, ap, ◌∙◌, rules}
use Rattle.edi_tables.specs.Walk.{parent_at, groups_round}
use Rattle.edi_tables.proofs.PlaceLaws.{up, groups_more, groups_end}
use Rattle.edi_tables.proofs.levels.GroupsIterator.next.Goals as goal

pub returns-in_err-group-clause-steps : goal.returns-in_err-group-clause-steps
returns-in_err-group-clause-steps c =
    let none : None ≡ parent_at c.self.inside.nodes.now c.self.inside.at = sym c.in_err-group.was ∙ c.parent_at.ensures in
    let empty = sym c.self.view_is ∙ groups_end c.self.inside.nodes.now c.self.inside.at c.self.invariant none in
    rw c.from_residual.ensures (empty, empty)

held : (c : goal.After-self-1) → Some c.from-self-inside.result ≡ parent_at c.self.inside.nodes.now c.self.inside.at
held c = ap Some c.from-self-inside.ensures ∙ sym c.in_ok-group.was ∙ c.parent_at.ensures

pub invariant_of-self : goal.invariant_of-self
invariant_of-self c = up c.self.inside.nodes.now c.self.inside.at c.from-self-inside.result c.self.invariant (held c)

steps : (c : goal.After-self-1) → c.args.self.now ≡ c.in_ok-group.group ∷ groups_round c.self.inside.nodes.now c.from-self-inside.result
steps c =
    sym c.self.view_is ∙ groups_more c.self.inside.nodes.now c.self.inside.at c.from-self-inside.result c.self.invariant (held c)
    ∙ ap (λ g. g ∷ groups_round c.self.inside.nodes.now c.from-self-inside.result) c.from-self-inside.ensures

pub returns-clause-steps : goal.returns-clause-steps
returns-clause-steps c = steps c

pub returns-clause-goes : goal.returns-clause-goes
returns-clause-goes c = let shorter = ap length (steps c) in search rules
