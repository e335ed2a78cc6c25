use Rattle.edi_tables.specs.Placement.{last_placed, rank_of}
use Rattle.table_walk.specs.Reading.{has_tag, member_of}
use Rattle.table_walk.proofs.Choosing.{IsBest}
use Rattle.table_walk.proofs.read.member_of.Given as goal

abbrev pub invariant-loop-candidate : goal.invariant-loop-candidate
invariant-loop-candidate l =
    IsBest l.table (last_placed l.placed) (has_tag l.table l.tag) (rank_of l.table l.placed) (member_of l.table l.placed l.tag) l.candidate-iterator l.best
