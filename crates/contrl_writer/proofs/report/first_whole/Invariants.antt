use Rattle.std.proofs.Common.{◌≡◌, drop}
use Rattle.std.specs.List.{filter}
use Rattle.contrl_writer.specs.Levels.{first_error}
use Rattle.contrl_writer.specs.Lower.{is_whole}
use Rattle.contrl_writer.proofs.report.first_whole.Given as goal

abbrev pub invariant-loop-x : goal.invariant-loop-x
invariant-loop-x l = first_error (filter is_whole (drop l.x-index l.errors)) ≡ first_error (filter is_whole l.errors)
