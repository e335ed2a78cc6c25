use Rattle.std.proofs.Common.{ℕ, ◌<◌, ◌++◌, ◌∙◌, List, [], length, map, sym, ap, subst}
use Rattle.std.specs.Prelude.{All}
use Rattle.std.proofs.lemmas.Option.{get_or_from_slice_get}
use Rattle.std.proofs.lemmas.Result.{on_ok_weaker}
use Rattle.edi_tables.specs.declared.table.Node.{Node}
use Rattle.dir_compile.specs.Directory.{tables_of}
use Rattle.segment_records.specs.Look.{seen_of}
use Rattle.segment_records.specs.Line.{fault_lines}
use Rattle.table_walk.specs.Errors.Fault.{Missing}
use Rattle.table_walk.specs.Steps.{IsShaped}
use Rattle.segment_records.specs.Records.{IsModeOf}
use Rattle.segment_records.proofs.Ending.{ends_within}
use Rattle.segment_records.proofs.Nodes.{past_within}
use Rattle.edi_engine.proofs.structure.put_end.Goals as goal

pub put_missing-requires : goal.put_missing-requires
put_missing-requires c =
    let dir = c.args.directory.now in
    let nodes = get_or_from_slice_get (tables_of dir) c.in-Within.table c.table-table.result.now [] c.table-table.ensures in
    let mode = subst (IsModeOf dir 4194304) (sym c.mode.ensures ∙ c.in-Within.is) c.requires.after in
    let shaped = subst (λ (ns : List Node). IsShaped ns c.in-Within.state) nodes mode.1 in
    subst (All (λ (j : ℕ). j < length c.table-table.result.now)) (sym (c.as_slice.ensures ∙ c.in_ok-missing-in-Within.ensures.missing)) (past_within c.table-table.result.now _ shaped.within)

pub returns-in_ok-missing-in-Within : goal.returns-in_ok-missing-in-Within
returns-in_ok-missing-in-Within c =
    let dir = c.args.directory.now in
    let seen = seen_of c.args.seen.now in
    let table = c.table-table.result.now in
    let nodes = get_or_from_slice_get (tables_of dir) c.in-Within.table table [] c.table-table.ensures in
    let lines = ap (λ (xs : List ℕ). fault_lines table seen (map Missing xs)) (c.as_slice.ensures ∙ c.in_ok-missing-in-Within.ensures.missing)
    ∙ ends_within dir seen c.in-Within.table c.in-Within.state table (sym c.mode.ensures ∙ c.in-Within.is) nodes (sym c.ends_before.ensures ∙ c.if-ends_before.true) in
    on_ok_weaker c.put_missing.result (λ put. put ∙ ap (λ lines. c.args.list.now.items ++ lines) lines) c.put_missing.ensures
