use Rattle.std.proofs.Common.{◌≡◌}
use Rattle.std.specs.Cmp.Lexicographic.{slice_cmp}
use Rattle.std.specs.Ordering.{nat_cmp}
use Rattle.seg_lexer.specs.Value.{octets_of}
use Rattle.element_check.proofs.value.order_of.Given as goal

-- what is left of the code compares with what is left of the value as the code does with the value
abbrev pub invariant-loop-octet : goal.invariant-loop-octet
invariant-loop-octet g l = slice_cmp nat_cmp l.rest l.octet-iterator ≡ slice_cmp nat_cmp l.fn.code (octets_of l.value)
