use Rattle.std.proofs.Common.{◌≡◌}
use Rattle.seg_lexer.specs.Fields.{octets_at, place_at}
use Rattle.seg_lexer.specs.Left.{components_left, fields_left}
use Rattle.seg_lexer.proofs.components.Fields.value_at.Given as goal

-- none of the components so far was sought
abbrev pub invariant-loop-found : goal.invariant-loop-found
invariant-loop-found g l = record {
  octets : octets_at l.element l.component (components_left l.fn.self) ≡ octets_at l.element l.component (components_left l.found-iterator);
  place : place_at l.element l.component (fields_left l.fn.self) ≡ place_at l.element l.component (fields_left l.found-iterator);
}
