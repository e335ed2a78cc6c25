use Rattle.std.proofs.Common.{◌<◌, ◌+◌, length}
use Rattle.table_walk.specs.Steps.{IsShaped, AreCountsUpTo}
use Rattle.check_tests.proofs.table_walk_calls.walk.Given as goal

abbrev pub invariant-loop-name : goal.invariant-loop-name
invariant-loop-name g l = IsShaped l.table l.state × AreCountsUpTo (l.name-index + 1) l.state × (length l.name-items < 1000)
