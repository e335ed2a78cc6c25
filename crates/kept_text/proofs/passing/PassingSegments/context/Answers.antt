use Rattle.std.proofs.Common.{◌≡◌, ap, ◌∙◌, subst, sym}
use Rattle.seg_lexer.specs.Service.{IsUsable}
use Rattle.seg_lexer.specs.declared.context.Context.{Context}
use Rattle.kept_text.proofs.Begun.{usable_by}
use Rattle.kept_text.specs.Passing.{Passing}
use Rattle.kept_text.proofs.passing.PassingSegments.context.Goals as goal

pub returns-clause-usable : goal.returns-clause-usable
returns-clause-usable c =
    subst (λ (p : Passing). IsUsable c.self.inside.context.service p.text) c.self.view_is
    (usable_by c.self.inside.text.now c.self.inside.context c.self.invariant.context)
