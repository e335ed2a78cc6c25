use Rattle.std.proofs.Common.{Some}
use Rattle.std.specs.Prelude.{filter}
use Rattle.edi_tables.specs.Pairs.{entry_in, rank_in}
use Rattle.table_walk.specs.Reading.{has_tag, least_from}
use Rattle.table_walk.proofs.Choosing.{IsBest}
use Rattle.table_walk.proofs.position.Position.best_from.Given as goal

abbrev pub invariant-loop-candidate : goal.invariant-loop-candidate
invariant-loop-candidate l =
    IsBest l.self.table.now (entry_in l.self.pairs.now) (has_tag l.self.table.now l.tag) (rank_in l.self.table.now l.self.pairs.now)
    (least_from (rank_in l.self.table.now l.self.pairs.now) (Some l.first) (filter (has_tag l.self.table.now l.tag) l.fn.others)) l.candidate-iterator l.best
