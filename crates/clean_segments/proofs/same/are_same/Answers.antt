use Rattle.std.proofs.Common.{◌+◌, ◌-◌, length, arith}
use Rattle.clean_segments.proofs.EightOctets.{same_at_end, same_before}
use Rattle.clean_segments.proofs.same.are_same.Goals as goal

pub loop-at-preserved : goal.loop-at-preserved
loop-at-preserved c = record {
  same = λ rest. c.loop-at.invariant.same
      (same_before c.args.one.now c.args.other.now c.loop-at.at (c.loop-at.at + 8) (omega arith)
      (c.are_eight_same.ensures c.if-not-are_eight_same.false) rest);
  within = omega (arith, c.loop-at-test.true);
}

pub returns : goal.returns
returns c ends =
    let last = length c.args.one.now - 8 in
    c.loop-at.invariant.same (same_at_end c.args.one.now c.args.other.now last c.loop-at.at
    (omega (arith, c.loop-at-test.false)) (omega arith) (omega (arith, c.if-len-other.false)) (c.are_eight_same-2.ensures ends))
