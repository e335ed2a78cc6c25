use Rattle.std.proofs.Common.{◌≡◌, [], map, take}
use Rattle.error_ledger.specs.Order.{in_order}
use Rattle.contrl_writer.specs.Levels.{with_level}
use Rattle.contrl_writer.proofs.errors.LevelledErrors.of.Given as goal

abbrev pub invariant-loop-group : goal.invariant-loop-group
invariant-loop-group l = l.items.items ≡ map (with_level (take l.group-index l.summary.groups) []) (in_order l.summary.errors)

abbrev pub invariant-loop-message : goal.invariant-loop-message
invariant-loop-message l = l.items.items ≡ map (with_level l.summary.groups (take l.message-index l.summary.messages)) (in_order l.summary.errors)
