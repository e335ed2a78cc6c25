use Rattle.std.proofs.Common.{None, length}
use Rattle.edi_tables.specs.Pairs.{entry_in, rank_in}
use Rattle.table_walk.specs.Reading.{has_tag}
use Rattle.table_walk.specs.Steps.{member_in}
use Rattle.table_walk.proofs.Choosing.{IsLeft}
use Rattle.table_walk.proofs.position.Position.member.Given as goal

abbrev pub invariant-loop-candidate : goal.invariant-loop-candidate
invariant-loop-candidate l =
    IsLeft l.self.table.now (entry_in l.self.pairs.now) (has_tag l.self.table.now l.tag) (rank_in l.self.table.now l.self.pairs.now) None (member_in l.self.table.now l.self.pairs.now l.tag) l.candidates

abbrev pub decreases-loop-candidate : goal.decreases-loop-candidate
decreases-loop-candidate l = length l.candidates
