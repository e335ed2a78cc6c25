use Rattle.std.proofs.Common.{arith}
use Rattle.drill_maker.specs.Interchange.{drill_message}
use Rattle.drill_maker.proofs.RangeLemmas.{range_next}
use Rattle.drill_maker.proofs.interchange.put_messages.Goals as goal

pub loop-i-preserved : goal.loop-i-preserved
loop-i-preserved c =
    range_next (drill_message c.args.x) 0 c.loop-i.i c.loop-i.i c.args.out.now c.loop-i.out c.put_message.new.out (omega arith) c.loop-i.invariant c.in_ok-put_message.ensures
