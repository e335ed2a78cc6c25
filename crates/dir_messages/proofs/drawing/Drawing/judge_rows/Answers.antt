use Rattle.std.proofs.Common.{◌≡◌, Some, None, slice_get, sym, ◌∙◌}
use Rattle.edi_tables.specs.declared.table.RowFault.{RowFault}
use Rattle.edi_tables.specs.Rows.{table_faults}
use Rattle.dir_messages.proofs.DepthLemmas.{rows-sound, rows-faulty}
use Rattle.dir_messages.proofs.drawing.Drawing.judge_rows.Goals as goal

pub returns-in-None : goal.returns-in-None
returns-in-None c type drawn numbered is =
    let none : slice_get (table_faults c.args.self.now.rows.items) 0 ≡ None = rw (← c.deref.ensures.value) (sym c.first_fault.ensures ∙ c.in-None.is) in
    rows-sound type drawn c.args.self.now is none

pub returns-in-Some : goal.returns-in-Some
returns-in-Some c type drawn numbered is =
    let fault : RowFault = c.in-Some.field-0 in
    let first : slice_get (table_faults c.args.self.now.rows.items) 0 ≡ Some fault = rw (← c.deref.ensures.value) (sym c.first_fault.ensures ∙ c.in-Some.is) in
    rw (c.at.ensures, c.line_of.ensures, c.kind_of.ensures, ← numbered) (rows-faulty type drawn c.args.self.now is fault.at fault.kind first)
