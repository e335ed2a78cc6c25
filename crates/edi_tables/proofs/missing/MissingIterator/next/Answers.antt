use Rattle.std.proofs.Common.{◌≡◌, ◌<◌, true, ◌∷◌, Some, None, length, refl, sym, ap, subst, ◌∙◌, arith, rules}
use Rattle.std.specs.Prelude.{filter, nat_lt, ◌&&◌}
use Rattle.std.proofs.lemmas.Bool.{false≢true}
use Rattle.edi_tables.specs.Walk.{parent_at, is_must_at}
use Rattle.edi_tables.specs.Places.{IsNextSibling, musts_left}
use Rattle.edi_tables.proofs.PlaceLaws.{up, later_sibling, later_group, later_end, musts_yes, musts_no, musts_none, less_along, less_up}
use Rattle.edi_tables.proofs.missing.MissingIterator.next.Goals.{else-is_must_at-via-then-is_must_at+else-self, else-is_must_at-via-else-is_must_at}
use Rattle.edi_tables.proofs.missing.MissingIterator.next.Goals as goal

pub loop-self-init : goal.loop-self-init
loop-self-init c = record { place = c.self.invariant; left = refl }

pub invariant_of-self : goal.invariant_of-self
invariant_of-self c = c.loop-self.invariant.place

pub next_sibling-requires : goal.next_sibling-requires
next_sibling-requires c = c.loop-self.invariant.place

given : (c : goal.Then-self) → c.args.self.now ≡ c.in-Some.sibling ∷ musts_left c.loop-self.self-inside.nodes.now c.loop-self.self-inside.reached c.from-self-inside.result
given c =
    let nodes = c.loop-self.self-inside.nodes.now in
    let reached = c.loop-self.self-inside.reached in
    let must : is_must_at nodes c.in-Some.sibling ≡ true = ap (is_must_at nodes) (sym c.from-self-inside.ensures) ∙ sym c.is_must_at.ensures ∙ c.if-is_must_at.true in
    let below : c.in-Some.sibling < reached = omega (arith, c.if-self.true, c.from-self-inside.ensures) in
    sym c.self.view_is ∙ sym c.loop-self.invariant.left
    ∙ musts_yes nodes reached c.loop-self.self-inside.at c.in-Some.sibling
    (later_sibling nodes c.loop-self.self-inside.at c.loop-self.self-inside.bound c.in-Some.sibling c.loop-self.invariant.place c.in-Some.ensures) must below
    ∙ ap (λ n. c.in-Some.sibling ∷ musts_left nodes reached n) (sym c.from-self-inside.ensures)

pub returns-then-self-clause-steps : goal.returns-then-self-clause-steps
returns-then-self-clause-steps c = given c

pub returns-then-self-clause-goes : goal.returns-then-self-clause-goes
returns-then-self-clause-goes c = let shorter = ap length (given c) in search rules

beside : (c : goal.Joined-else-is_must_at) → IsNextSibling c.loop-self.self-inside.nodes.now c.loop-self.self-inside.at c.loop-self.self-inside.bound c.from-self-inside.result
beside c =
    subst (IsNextSibling c.loop-self.self-inside.nodes.now c.loop-self.self-inside.at c.loop-self.self-inside.bound) (sym c.from-self-inside.ensures) c.in-Some.ensures

pub loop-self-smaller-else-is_must_at : goal.loop-self-smaller-else-is_must_at
loop-self-smaller-else-is_must_at c =
    less_along c.loop-self.self-inside.nodes.now c.loop-self.self-inside.at c.loop-self.self-inside.bound c.from-self-inside.result c.loop-self.invariant.place (beside c)

not_given : (c : goal.Joined-else-is_must_at) → is_must_at c.loop-self.self-inside.nodes.now c.from-self-inside.result ≡ true → c.from-self-inside.result < c.loop-self.self-inside.reached → ⊥
not_given c must below = elim c.else-is_must_at.branch [
  | else-is_must_at-via-then-is_must_at+else-self w ↦ omega (arith, below, w.if-self.false)
  | else-is_must_at-via-else-is_must_at w ↦ false≢true (sym w.if-is_must_at.false ∙ c.is_must_at.ensures ∙ must)
]

pub loop-self-preserved-else-is_must_at : goal.loop-self-preserved-else-is_must_at
loop-self-preserved-else-is_must_at c =
    let nodes = c.loop-self.self-inside.nodes.now in
    record {
      place = (beside c).place;
      left =
          sym (musts_no nodes c.loop-self.self-inside.reached c.loop-self.self-inside.at c.from-self-inside.result
          (later_sibling nodes c.loop-self.self-inside.at c.loop-self.self-inside.bound c.from-self-inside.result c.loop-self.invariant.place (beside c)) (not_given c))
          ∙ c.loop-self.invariant.left;
    }

pub parent_at-requires : goal.parent_at-requires
parent_at-requires c = c.loop-self.invariant.place.node.within

pub invariant_of-self-in_err-group : goal.invariant_of-self-in_err-group
invariant_of-self-in_err-group c = c.loop-self.invariant.place

pub returns-in_err-group-clause-steps : goal.returns-in_err-group-clause-steps
returns-in_err-group-clause-steps c =
    let nodes = c.loop-self.self-inside.nodes.now in
    let reached = c.loop-self.self-inside.reached in
    let none : None ≡ parent_at nodes c.loop-self.self-inside.at = sym c.in_err-group.was ∙ c.parent_at.ensures in
    let empty = ap (filter (λ j. is_must_at nodes j && nat_lt j reached)) (later_end nodes c.loop-self.self-inside.at c.loop-self.invariant.place.node c.in_default.ensures none) in
    rw c.from_residual.ensures (sym c.self.view_is ∙ sym c.loop-self.invariant.left ∙ empty, empty)

pub level_end-self-inside-requires : goal.level_end-self-inside-requires
level_end-self-inside-requires c =
    up c.loop-self.self-inside.nodes.now c.loop-self.self-inside.at c.from-self-inside-in_default.result c.loop-self.invariant.place.node
    (ap Some c.from-self-inside-in_default.ensures ∙ sym c.in_ok-group.was ∙ c.parent_at.ensures)

held : (c : goal.After-self-in_default-2-1) → Some c.from-self-inside-in_default.result ≡ parent_at c.loop-self.self-inside.nodes.now c.loop-self.self-inside.at
held c = ap Some c.from-self-inside-in_default.ensures ∙ sym c.in_ok-group.was ∙ c.parent_at.ensures

pub loop-self-smaller : goal.loop-self-smaller
loop-self-smaller c =
    less_up c.loop-self.self-inside.nodes.now c.loop-self.self-inside.at c.from-self-inside-in_default.result c.loop-self.invariant.place.node c.in_default.ensures (held c)

pub loop-self-preserved : goal.loop-self-preserved
loop-self-preserved c =
    let nodes = c.loop-self.self-inside.nodes.now in
    let reached = c.loop-self.self-inside.reached in
    record {
      place = record { node = up nodes c.loop-self.self-inside.at c.from-self-inside-in_default.result c.loop-self.invariant.place.node (held c); level = c.level_end-self-inside.ensures };
      left =
          sym (ap (filter (λ j. is_must_at nodes j && nat_lt j reached))
          (later_group nodes c.loop-self.self-inside.at c.from-self-inside-in_default.result c.loop-self.invariant.place.node c.in_default.ensures (held c)))
          ∙ c.loop-self.invariant.left;
    }

pub returns-clause-steps : goal.returns-clause-steps
returns-clause-steps c =
    let empty = musts_none c.loop-self.self-inside.nodes.now c.loop-self.self-inside.reached c.loop-self.self-inside.at c.loop-self-test.false in
    (sym c.self.view_is ∙ sym c.loop-self.invariant.left ∙ empty, empty)
