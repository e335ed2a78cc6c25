use Rattle.std.proofs.Common.{◌+◌, ℕ, sym, ap, ◌∙◌, arith}
use Rattle.std.proofs.lemmas.Bool.{le-ltb}
use Rattle.edi_tables.specs.Filled.{is_filled}
use Rattle.edi_tables.specs.Walk.{missing_between}
use Rattle.edi_tables.proofs.TableLaws.{table_laws}
use Rattle.table_walk.proofs.NextReached.{none_passed}
use Rattle.table_walk.proofs.position.Position.passes_must.Goals as goal

pub overflow_add-self : goal.overflow_add-self
overflow_add-self c =
    let at = c.args.self.now in
    omega (arith, at.here, at.shaped.within, (table_laws at.table.now at.lawful).small)

pub returns-else-reached-self : goal.returns-else-reached-self
returns-else-reached-self c =
    let at = c.args.self.now in
    le-ltb (at.entry + 1) c.reached.result c.if-reached-self.false
    ∙ sym (ap (λ (f : ℕ). is_filled (missing_between at.table.now f c.args.candidate)) (sym at.here)
    ∙ none_passed at.table.now at.entry c.args.candidate (omega (arith, c.reached.ensures, c.if-reached-self.false)))
