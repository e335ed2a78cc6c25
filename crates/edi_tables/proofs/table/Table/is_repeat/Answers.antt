use Rattle.std.proofs.Common.{◌≡◌, ◌<◌, Some, sym, ap, subst, ◌∙◌, arith}
use Rattle.edi_tables.specs.Rows.{IsTable}
use Rattle.edi_tables.specs.Walk.{parent_at}
use Rattle.edi_tables.proofs.TableLaws.{table_laws}
use Rattle.edi_tables.proofs.Rising.{not_repeat}
use Rattle.edi_tables.proofs.table.Table.is_repeat.Goals as goal

pub overflow_add-group : goal.overflow_add-group
overflow_add-group c =
    let nodes = c.args.self.now in
    let held : parent_at nodes c.args.candidate ≡ Some c.in-Some.group =
    ap (λ made. parent_at made c.args.candidate) (sym (c.as_slice-nodes.ensures.value ∙ c.self.view_is)) ∙ ap (parent_at c.as_slice-nodes.result.now) (sym c.from.ensures) ∙ sym c.parent_at.ensures ∙ c.in-Some.is in
    let before : c.in-Some.group < c.args.candidate = (table_laws nodes (subst IsTable c.self.view_is c.self.invariant)).parent_before c.args.candidate c.in-Some.group held in
    omega (arith, c.ranges.candidate)

pub returns-then-candidate-entry : goal.returns-then-candidate-entry
returns-then-candidate-entry c =
    sym (not_repeat c.args.self.now (subst IsTable c.self.view_is c.self.invariant) c.args.entry c.requires.within c.args.candidate c.if-candidate-entry.true)
