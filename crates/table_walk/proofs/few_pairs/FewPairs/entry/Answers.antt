use Rattle.std.proofs.Common.{sym, ap, ◌∙◌}
use Rattle.edi_tables.specs.Pairs.{entry_in}
use Rattle.table_walk.proofs.PairReads.{entry_at_last}
use Rattle.table_walk.proofs.few_pairs.FewPairs.entry.Goals as goal

pub returns-in-Some : goal.returns-in-Some
returns-in-Some c =
    sym (entry_at_last c.as_slice-pairs.result.now c.in-Some.pair.now (sym c.in-Some.ensures.value)) ∙ ap entry_in c.as_slice-pairs.ensures
