use Rattle.std.proofs.Common.{length}
use Rattle.element_check.proofs.value.+order_of_octets.Given as goal

-- each call has an octet of the code less
abbrev pub decreases-order_of_octets : goal.decreases-order_of_octets
decreases-order_of_octets l = length l.code.now
