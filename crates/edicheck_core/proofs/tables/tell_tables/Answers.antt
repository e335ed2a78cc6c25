use Rattle.std.proofs.Common.{Ok}
use Rattle.listing_printer.specs.Tables.{tables_text}
use Rattle.run_outcome.specs.Outcome.{done}
use Rattle.edicheck_core.proofs.AnswerLemmas.{after_loaded, after_unloaded, printed-steady, printed_or_refused}
use Rattle.edicheck_core.proofs.tables.tell_tables.Goals as goal

pub returns-in-Ok-clause-due : goal.returns-in-Ok-clause-due
returns-in-Ok-clause-due g c =
    after_loaded (λ directory. done (tables_text directory)) c.args.manifest.now (g.S.Shelf.files c.args.shelf.now) (Ok c.in-Ok.directory) _ c.lines.result c.in-Ok.ensures.loads
    (printed_or_refused c.print_tables.result (tables_text c.in-Ok.directory) c.lines.result c.print_tables.ensures c.lines.ensures)

pub returns-in-Ok-clause-steady : goal.returns-in-Ok-clause-steady
returns-in-Ok-clause-steady g c = λ steady. printed-steady c.print_tables.result c.lines.result c.lines.ensures

pub returns-in-Err-clause-due : goal.returns-in-Err-clause-due
returns-in-Err-clause-due g c =
    after_unloaded (λ directory. done (tables_text directory)) c.args.manifest.now (g.S.Shelf.files c.args.shelf.now) _ c.in-Err.made c.in-Err.ensures.loads
