use Rattle.std.proofs.Common.{refl, arith, length-append}
use Rattle.edi_ports.proofs.Told.{taken_more}
use Rattle.edi_ports.proofs.read.read_all.Goals as goal

pub loop-n-preserved : goal.loop-n-preserved
loop-n-preserved g c =
    let more = c.in_ok-gather-in-Got.ensures in record {
      within = rw more.0 (rw length-append more.1);
      told = rw more.0 (taken_more _ _ _ _ _ _ _ c.loop-n.invariant.told c.in-Got.ensures.taken refl);
      counted = omega (arith, c.in-Got.ensures.counted);
      steady = λ was. (c.in-Got.ensures.steady (c.loop-n.invariant.steady was)).1;
    }
