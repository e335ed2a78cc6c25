use Rattle.std.proofs.Common.{◌≡◌, ◌++◌, drop, map, take}
use Rattle.contrl_writer.specs.Raising.{closing_raised}
use Rattle.contrl_writer.proofs.errors.raise_closing.Given as goal

abbrev pub invariant-loop-x : goal.invariant-loop-x
invariant-loop-x l = l.errors ≡ map closing_raised (take l.x-index l.fn.errors) ++ drop l.x-index l.fn.errors
