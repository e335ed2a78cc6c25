use Rattle.std.specs.Prelude.{reverse}
use Rattle.table_walk.proofs.Turning.{IsTurned}
use Rattle.table_walk.proofs.position.Position.few_next.Given as goal

abbrev pub invariant-loop-group : goal.invariant-loop-group
invariant-loop-group l = IsTurned l.self.table.now l.self.pairs.now l.candidate (reverse l.pairs) l.group-iterator
