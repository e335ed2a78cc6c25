use Rattle.std.proofs.Common.{inl, length, ap, arith}
use Rattle.edi_tables.proofs.Walking.{length-groups_round}
use Rattle.edi_engine.proofs.places.depth_of.Goals as goal

pub count-requires-clause-fits : goal.count-requires-clause-fits
count-requires-clause-fits c =
    let count = ap length c.groups_round.ensures.value in
    inl (omega (arith, length-groups_round c.args.table.now c.nodes-nodes.ensures.lawful c.from.result))

pub overflow_cast-result : goal.overflow_cast-result
overflow_cast-result c =
    let count = ap length c.groups_round.ensures.value in
    omega (arith, length-groups_round c.args.table.now c.nodes-nodes.ensures.lawful c.from.result, c.count.ensures.bound)
