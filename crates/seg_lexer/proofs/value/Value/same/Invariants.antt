use Rattle.std.proofs.Common.{◌≡◌, ◌↔◌}
use Rattle.seg_lexer.specs.Value.{octets_of}
use Rattle.seg_lexer.proofs.value.Value.same.Given as goal

-- what is left of one equals what is left of the other exactly where they are equal
abbrev pub invariant-loop-octet : goal.invariant-loop-octet
invariant-loop-octet g l = (octets_of l.self ≡ octets_of l.other) ↔ (l.octet-iterator ≡ l.rest)
