use Rattle.std.proofs.Common.{◌≡◌, [], map, take}
use Rattle.contrl_writer.specs.Levels.{with_level}
use Rattle.contrl_writer.proofs.errors.told_alone.Given as goal

abbrev pub invariant-loop-error : goal.invariant-loop-error
invariant-loop-error l = l.items.items ≡ map (with_level [] []) (take l.error-index l.errors)
