use Rattle.std.proofs.Common.{◌≡◌, length}
use Rattle.edit_script.proofs.batch.room_for.Given as goal

abbrev pub invariant-loop : goal.invariant-loop
invariant-loop l = length l.edits.items ≡ l.counter
