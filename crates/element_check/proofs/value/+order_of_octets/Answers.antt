use Rattle.std.proofs.Common.{arith}
use Rattle.std.proofs.lemmas.List.{nil_from_length}
use Rattle.element_check.proofs.CodeLemmas.{longer-after}
use Rattle.element_check.proofs.value.+order_of_octets.Goals as goal

pub returns-else-is_empty : goal.returns-else-is_empty
returns-else-is_empty t c =
    let below = c.in_default.len_below in
    let filled = c.if-is_empty.ensures in
    longer-after c.args.code.now c.args.octets.now (grind (arith, filled)) (nil_from_length c.args.octets.now (omega (arith, below)))
