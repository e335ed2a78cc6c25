use Rattle.std.proofs.Common.{◌≡◌, drop}
use Rattle.edi_tables.specs.Pairs.{count_in}
use Rattle.table_walk.proofs.few_pairs.FewPairs.count_of.Given as goal

abbrev pub invariant-loop-pair : goal.invariant-loop-pair
invariant-loop-pair l = count_in (drop l.pair-index l.pairs) l.node ≡ count_in l.self l.node
