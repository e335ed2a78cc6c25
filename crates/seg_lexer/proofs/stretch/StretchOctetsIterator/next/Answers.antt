use Rattle.std.proofs.Common.{sym, ◌∙◌}
use Rattle.seg_lexer.proofs.StretchLemmas.{Taken, lent-first}
use Rattle.seg_lexer.proofs.stretch.StretchOctetsIterator.next.Goals as goal
use Rattle.seg_lexer.proofs.stretch.StretchOctetsIterator.next.Goals.{In_ok-first}

taken : (g : _) (c : In_ok-first g) → Taken (g.O.Octets.octets c.self.inside.text.now) c.self.inside.at c.self.inside.to c.in_ok-first.first.now c.in_ok-first.rest.now
taken g c = lent-first _ _ _ _ _ _ c.lent-part.ensures.lent c.in_ok-first.ensures.cases.0

pub invariant_of-self : goal.invariant_of-self
invariant_of-self g c = (taken g (goal.at.invariant_of-self g c).In_ok-first).lent

pub returns-clause-steps : goal.returns-clause-steps
returns-clause-steps g c = sym c.self.view_is ∙ (taken g (goal.at.returns-clause-steps g c).In_ok-first).first
