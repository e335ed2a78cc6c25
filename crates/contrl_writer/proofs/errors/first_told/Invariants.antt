use Rattle.std.proofs.Common.{◌≡◌, drop}
use Rattle.std.specs.List.{filter}
use Rattle.contrl_writer.specs.Levels.{first_error, is_level}
use Rattle.contrl_writer.proofs.errors.first_told.Given as goal

abbrev pub invariant-loop-x : goal.invariant-loop-x
invariant-loop-x l =
    first_error (filter (λ x. is_level l.level x.level) (drop l.x-index l.errors)) ≡ first_error (filter (λ x. is_level l.level x.level) l.errors)
