use Rattle.std.proofs.Common.{ap, ◌∙◌}
use Rattle.element_check.specs.Rules.{SegmentRules}
use Rattle.element_check.proofs.rules.Rules.parts.Goals as goal

pub returns-in-Some-composite-clause-lawful : goal.returns-in-Some-composite-clause-lawful
returns-in-Some-composite-clause-lawful c = λ x h. c.self.invariant x (ap (λ (r : SegmentRules). r.directory) c.self.view_is ∙ h)

pub returns-in-None-composite-clause-lawful : goal.returns-in-None-composite-clause-lawful
returns-in-None-composite-clause-lawful c = λ x h. c.self.invariant x (ap (λ (r : SegmentRules). r.directory) c.self.view_is ∙ h)
