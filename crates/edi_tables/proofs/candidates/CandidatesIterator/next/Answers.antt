use Rattle.std.proofs.Common.{◌≡◌, ◌+◌, ◌∷◌, Some, None, length, sym, ap, ◌∙◌, arith, rules}
use Rattle.edi_tables.specs.Walk.{parent_at}
use Rattle.edi_tables.specs.Places.{IsNode, candidates_left}
use Rattle.edi_tables.proofs.PlaceLaws.{place_small, up, sibling_given, group_given, end_given}
use Rattle.edi_tables.proofs.candidates.CandidatesIterator.next.Goals as goal

along : (c : goal.After-entry_for) → c.args.self.now ≡ c.entry_for.result ∷ candidates_left c.self.inside.nodes.now c.self.inside.first c.from-self-inside.result
along c =
    sibling_given c.self.inside.nodes.now c.self.inside.first c.self.inside.at c.self.inside.bound c.in-Some-next_sibling.sibling c.from-self-inside.result c.entry_for.result c.args.self.now
    c.self.view_is c.in_default.is c.self.invariant c.in-Some-next_sibling.ensures c.from-self-inside.ensures c.entry_for.ensures

pub returns-in-Some-next_sibling-clause-steps : goal.returns-in-Some-next_sibling-clause-steps
returns-in-Some-next_sibling-clause-steps c = along c

pub returns-in-Some-next_sibling-clause-goes : goal.returns-in-Some-next_sibling-clause-goes
returns-in-Some-next_sibling-clause-goes c = let shorter = ap length (along c) in search rules

pub returns-in_err-group-clause-steps : goal.returns-in_err-group-clause-steps
returns-in_err-group-clause-steps c =
    let none : None ≡ parent_at c.self.inside.nodes.now c.self.inside.at = sym c.in_err-group.was ∙ c.parent_at.ensures in
    let empty = end_given c.self.inside.nodes.now c.self.inside.first c.self.inside.at c.args.self.now c.self.view_is c.in_default.is c.self.invariant.node c.in_default-next_sibling.ensures none in
    rw c.from_residual.ensures (empty, empty)

pub level_end-self-inside-requires : goal.level_end-self-inside-requires
level_end-self-inside-requires c =
    up c.self.inside.nodes.now c.self.inside.at c.from-self-inside-2.result c.self.invariant.node
    (ap Some c.from-self-inside-2.ensures ∙ sym c.in_ok-group.was ∙ c.parent_at.ensures)

held : (c : goal.After-self-3-1) → Some c.in_ok-group.group ≡ parent_at c.self.inside.nodes.now c.self.inside.at
held c = sym c.in_ok-group.was ∙ c.parent_at.ensures

there : (c : goal.After-self-3-1) → IsNode c.self.inside.nodes.now c.from-self-inside-2.result
there c = up c.self.inside.nodes.now c.self.inside.at c.from-self-inside-2.result c.self.invariant.node (ap Some c.from-self-inside-2.ensures ∙ held c)

pub overflow_add-result : goal.overflow_add-result
overflow_add-result c = let small = place_small c.self.inside.nodes.now c.from-self-inside-2.result (there c) in omega (arith, c.from-self-inside-2.ensures)

pub invariant_of-self-2 : goal.invariant_of-self-2
invariant_of-self-2 c = record { node = there c; level = c.level_end-self-inside.ensures }

outwards : (c : goal.After-self-3-1) → c.args.self.now ≡ (c.in_ok-group.group + 1) ∷ candidates_left c.self.inside.nodes.now c.self.inside.first c.from-self-inside-2.result
outwards c =
    group_given c.self.inside.nodes.now c.self.inside.first c.self.inside.at c.in_ok-group.group c.from-self-inside-2.result c.args.self.now
    c.self.view_is c.in_default.is c.self.invariant.node c.in_default-next_sibling.ensures (held c) c.from-self-inside-2.ensures

pub returns-clause-steps : goal.returns-clause-steps
returns-clause-steps c = outwards c

pub returns-clause-goes : goal.returns-clause-goes
returns-clause-goes c = let shorter = ap length (outwards c) in search rules
