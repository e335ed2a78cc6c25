use Rattle.std.proofs.Common.{◌≡◌, ◌-◌, []}
use Rattle.dir_store.specs.Lines.{several}
use Rattle.dir_store.proofs.entry.read_several.Given as goal

abbrev pub invariant-loop : goal.invariant-loop
invariant-loop g l = several (l.count - l.counter) (g.T.Entry.read_at l.known) l.members.items l.rest ≡ several l.count (g.T.Entry.read_at l.known) [] l.octets
