use Rattle.std.proofs.Common.{◌≡◌, ◌++◌, take}
use Rattle.envelope_check.specs.Known.{errors_by}
use Rattle.envelope_check.proofs.envelope.push_errors.Given as goal

abbrev pub invariant-loop-is_broken : goal.invariant-loop-is_broken
invariant-loop-is_broken l = l.errors.items ≡ l.initial.errors.items ++ errors_by l.number l.mark (take l.is_broken-index l.is_broken-items)
