use Rattle.std.proofs.Common.{◌≡◌, length}
use Rattle.check_tests.proofs.envelope_check_calls.all_values.Given as goal

abbrev pub invariant-loop-row : goal.invariant-loop-row
invariant-loop-row l = length l.values.items ≡ l.row-index
