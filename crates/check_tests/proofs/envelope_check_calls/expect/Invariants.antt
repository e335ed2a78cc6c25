use Rattle.std.proofs.Common.{◌≡◌, length}
use Rattle.envelope_check.specs.Heads.{Fits}
use Rattle.check_tests.proofs.envelope_check_calls.expect.Given as goal

abbrev pub invariant-loop-row : goal.invariant-loop-row
invariant-loop-row g l = Fits l.heads.items l.marks.items × (length l.marks.items ≡ l.row-index)
