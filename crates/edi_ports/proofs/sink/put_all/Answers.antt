use Rattle.std.proofs.Common.{◌≡◌, ◌-◌, ◌≤◌, ℕ, length, subst, arith}
use Rattle.edi_ports.proofs.Told.{put_more}
use Rattle.edi_ports.proofs.sink.put_all.Goals as goal

pub loop-rest-preserved : goal.loop-rest-preserved
loop-rest-preserved g c = record {
  put = put_more _ _ _ _ _ _ _ c.loop-rest.invariant.put c.in-Took.ensures.put c.split_at.ensures.back;
  counted = omega (arith, c.in-Took.ensures.counted);
  room = λ n was fits.
      let shorter = c.loop-rest.invariant.put.shorter in
      let after = c.split_at.ensures.back_len in
      let m : ℕ = n - (length c.args.part.now - length c.loop-rest.rest.now) in
      let within : length c.loop-rest.rest.now ≤ n - (length c.args.part.now - length c.loop-rest.rest.now) = omega arith in
      let same : n - (length c.args.part.now - length c.loop-rest.rest.now) - c.in-Took.n ≡ n - (length c.args.part.now - length c.split_at.result.1.now) = omega arith in
      subst (λ (k : ℕ). g.O.Sink.has_room c.put.new.self k) same (c.in-Took.ensures.room m (c.loop-rest.invariant.room n was fits) within);
}
