use Rattle.std.proofs.Common.{◌-◌, arith}
use Rattle.contrl_match.proofs.Indexing.{group-next}
use Rattle.contrl_match.proofs.head_index.index_groups.Goals as goal

pub loop-place-preserved : goal.loop-place-preserved
loop-place-preserved c = record {
  within = omega arith;
  found = group-next c.args.groups.now (c.loop-place.place - 1) c.loop-place.place _ c.octets.result c.loop-place.map c.insert.new.self (omega arith) c.index-groups-place.is c.octets.ensures (omega arith) c.loop-place.invariant.found c.in_ok-insert.ensures.updates;
}
