use Rattle.std.proofs.Common.{◌≡◌, ◌+◌, sym, subst, arith}
use Rattle.table_walk.specs.Steps.{IsShaped, AreCountsUpTo}
use Rattle.table_walk.proofs.PairReads.{counts_weaker}
use Rattle.check_tests.proofs.table_walk_calls.walk.Goals as goal

pub place-requires-clause-few : goal.place-requires-clause-few
place-requires-clause-few g c =
    counts_weaker (c.loop-name.name-index + 1) 4194303 c.loop-name.state (omega (arith, c.loop-name-test.true, c.loop-name.invariant.2)) c.loop-name.invariant.1

pub loop-name-preserved : goal.loop-name-preserved
loop-name-preserved g c =
    let same : c.in_ok-state-2.state ≡ c.in_ok-placed.placed.state = c.in_ok-state-2.ensures in (
      subst (IsShaped c.args.table.now) (sym same) c.in_ok-placed.ensures.shaped,
      subst (AreCountsUpTo (c.loop-name.name-index + 1 + 1)) (sym same) (c.in_ok-placed.ensures.counts (c.loop-name.name-index + 1) c.loop-name.invariant.1),
      c.loop-name.invariant.2,
    )
