use Rattle.std.proofs.Common.{ap, sym, ◌∙◌, ◌≤◌, length, arith}
use Rattle.seg_lexer.specs.declared.service.Service.{Service}
use Rattle.seg_lexer.proofs.ServiceLemmas.{IsUsable-acceptable}
use Rattle.seg_lexer.proofs.service.read_service.Goals as goal

pub returns-then-is_acceptable-clause-usable : goal.returns-then-is_acceptable-clause-usable
returns-then-is_acceptable-clause-usable g c =
    let body : c.read_advice-advice.result.body ≤ length (g.O.Octets.octets c.args.text.now) =
    omega (arith, ap (λ (s : Service). s.body) c.read_advice-advice.ensures, c.if-len-ge-ADVICE_LEN.true, c.len.ensures) in
    IsUsable-acceptable c.read_advice-advice.result (g.O.Octets.octets c.args.text.now)
    (ap (λ (s : Service). s.repetition) c.read_advice-advice.ensures) body (sym c.is_acceptable.ensures ∙ c.if-is_acceptable.true)
