use Rattle.dir_compile.specs.Known.{AreHints}
use Rattle.dir_compile.proofs.known.KnownNames.of.Given as goal

abbrev pub invariant-loop-item : goal.invariant-loop-item
invariant-loop-item g l = AreHints l.names.keys l.hints.items
