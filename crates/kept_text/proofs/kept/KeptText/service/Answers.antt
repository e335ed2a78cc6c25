use Rattle.std.proofs.Common.{◌∙◌, ap, subst}
use Rattle.seg_lexer.specs.Context.{context_of}
use Rattle.seg_lexer.specs.Service.{IsUsable}
use Rattle.kept_text.specs.Reading.{Reading}
use Rattle.kept_text.proofs.Readings.{service_is, service_usable}
use Rattle.kept_text.proofs.kept.KeptText.service.Goals as goal

pub returns-clause-service : goal.returns-clause-service
returns-clause-service c = service_is c.self.inside c.self.invariant ∙ ap (λ (r : Reading). (context_of r.text).service) c.self.view_is

pub returns-clause-usable : goal.returns-clause-usable
returns-clause-usable c =
    subst (λ (r : Reading). IsUsable c.self.inside.context.service r.text) c.self.view_is (service_usable c.self.inside c.self.invariant)
