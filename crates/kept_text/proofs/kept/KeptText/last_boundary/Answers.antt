use Rattle.std.proofs.Common.{ℕ, ◌+◌, ◌∙◌, ap, get_or, length, arith}
use Rattle.seg_lexer.specs.Segments.{boundaries_of, ends_of}
use Rattle.seg_lexer.specs.Service.{service_of}
use Rattle.kept_text.specs.Reading.{Reading}
use Rattle.kept_text.proofs.Readings.{boundary_is, boundary_within}
use Rattle.kept_text.proofs.kept.KeptText.last_boundary.Goals as goal

pub overflow_add-result : goal.overflow_add-result
overflow_add-result c =
    let within = boundary_within c.self.inside c.self.invariant in
    omega (arith, c.total.ensures)

pub returns : goal.returns
returns c =
    ap (λ (n : ℕ). c.self.inside.context.service.body + n) c.total.ensures
    ∙ boundary_is c.self.inside c.self.invariant
    ∙ ap (λ (r : Reading). get_or (boundaries_of (service_of r.text) r.text) (length (ends_of (service_of r.text) r.text)) 0) c.self.view_is
