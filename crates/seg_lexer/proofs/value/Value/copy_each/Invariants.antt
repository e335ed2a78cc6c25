use Rattle.std.proofs.Common.{◌≡◌, ◌++◌}
use Rattle.seg_lexer.specs.Value.{octets_of}
use Rattle.seg_lexer.proofs.value.Value.copy_each.Given as goal

-- what was copied, and what is left, are all of it
abbrev pub invariant-loop-octet : goal.invariant-loop-octet
invariant-loop-octet g l = l.copy ++ l.octet-iterator ≡ octets_of l.self
