use Rattle.std.proofs.Common.{◌≡◌, List, sym, subst, ◌∙◌}
use Rattle.edi_tables.specs.declared.table.Node.{Node}
use Rattle.edi_tables.specs.Walk.{missing_past}
use Rattle.edi_tables.specs.Placement.{last_placed}
use Rattle.edi_tables.specs.Pairs.{pairs_of, entry_in}
use Rattle.table_walk.specs.Reading.{IsReading}
use Rattle.table_walk.proofs.Placing.{ends_same}
use Rattle.table_walk.proofs.state.State.finish.Goals as goal

pub returns-clause-reading : goal.returns-clause-reading
returns-clause-reading c tags placed =
    let at = c.of-position.result in
    let left : c.in_ok-missing.missing.items ≡ missing_past at.table.now (entry_in at.pairs.now) = c.in_ok-missing.ensures ∙ c.missing_past.ensures in
    subst (λ (t : List Node). IsReading t tags placed → pairs_of t placed ≡ c.args.self.now → c.in_ok-missing.missing.items ≡ missing_past t (last_placed placed)) c.of-position.ensures.table
    (λ reading same. left ∙ ends_same at.table.now at.lawful tags placed reading at.pairs.now (same ∙ sym c.of-position.ensures.pairs))
