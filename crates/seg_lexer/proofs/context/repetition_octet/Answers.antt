use Rattle.std.proofs.Common.{sym, ap, ◌∙◌, arith}
use Rattle.seg_lexer.specs.declared.service.Service.{Service}
use Rattle.seg_lexer.proofs.ContextEnds.{sound-long}
use Rattle.seg_lexer.proofs.context.repetition_octet.Goals as goal

pub octet-requires : goal.octet-requires
octet-requires g c =
    let long = sound-long (g.O.Octets.octets c.args.text.now) (sym c.begins_with_advice.ensures ∙ c.if-begins_with_advice.true)
    (sym (ap (λ (s : Service). s.sound) c.requires.own) ∙ c.if-service.true) in
    omega arith
