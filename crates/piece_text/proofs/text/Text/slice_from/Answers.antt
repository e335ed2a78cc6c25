use Rattle.std.proofs.Common.{length, slice_range, ap, arith}
use Rattle.piece_text.proofs.Concats.{rest_is, rest_within}
use Rattle.piece_text.proofs.text.Text.slice_from.Goals as goal

pub returns-clause-within : goal.returns-clause-within
returns-clause-within c =
    let located = c.locate-located in
    rw (← c.self.view_is) (rest_within c.self.inside.pieces located.result.place _ located.result.offset _ _ located.ensures.is located.ensures.offset (omega arith) (ap (λ octets. slice_range octets located.result.offset (length octets)) c.octets.ensures))

pub returns-clause-part : goal.returns-clause-part
returns-clause-part c =
    let located = c.locate-located in
    rw (← c.self.view_is) (rest_is c.self.inside.pieces located.result.place _ located.result.offset _ _ located.ensures.is located.ensures.offset (omega arith) (ap (λ octets. slice_range octets located.result.offset (length octets)) c.octets.ensures))
