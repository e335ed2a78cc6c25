use Rattle.std.proofs.Common.{◌-◌, arith}
use Rattle.contrl_match.proofs.Indexing.{message-next}
use Rattle.contrl_match.proofs.head_index.index_messages.Goals as goal

pub loop-place-preserved : goal.loop-place-preserved
loop-place-preserved c = record {
  within = omega arith;
  found = message-next c.args.messages.now (c.loop-place.place - 1) c.loop-place.place _ (c.group_place.result, c.octets.result) c.loop-place.map c.insert.new.self (omega arith) c.index-messages-place.is c.group_place.ensures c.octets.ensures (omega arith) c.loop-place.invariant.found c.in_ok-insert.ensures.updates;
}
