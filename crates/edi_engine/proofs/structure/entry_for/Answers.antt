use Rattle.std.proofs.Common.{◌∙◌, sym, ap, arith}
use Rattle.edi_tables.specs.Walk.{is_group_at}
use Rattle.edi_tables.proofs.TableLaws.{table_laws}
use Rattle.edi_engine.proofs.structure.entry_for.Goals as goal

pub overflow_add-result : goal.overflow_add-result
overflow_add-result c =
    let laws = table_laws c.args.table.now c.nodes-nodes.ensures.lawful in
    let group = ap (is_group_at c.args.table.now) (sym c.from.ensures) ∙ sym c.is_group.ensures ∙ c.if-is_group.true in
    let within = laws.trigger_within c.args.node group in
    let small = laws.small in
    omega arith

pub returns-then-is_group-clause-within : goal.returns-then-is_group-clause-within
returns-then-is_group-clause-within c =
    let laws = table_laws c.args.table.now c.nodes-nodes.ensures.lawful in
    laws.trigger_within c.args.node (ap (is_group_at c.args.table.now) (sym c.from.ensures) ∙ sym c.is_group.ensures ∙ c.if-is_group.true)
