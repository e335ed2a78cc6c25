use Rattle.drill_printer.specs.Drill.{drill_text}
use Rattle.run_outcome.specs.Outcome.{done}
use Rattle.edicheck_core.proofs.AnswerLemmas.{made_or_refused, printed-steady, printed_or_refused}
use Rattle.edicheck_core.proofs.drill.tell_drill.Goals as goal

pub returns-clause-due : goal.returns-clause-due
returns-clause-due c =
    let text = drill_text c.args.messages c.args.edits c.args.number in
    made_or_refused (done text) c.lines.result ⊥ (printed_or_refused c.print_drill.result text c.lines.result c.print_drill.ensures c.lines.ensures)

pub returns-clause-steady : goal.returns-clause-steady
returns-clause-steady c = printed-steady c.print_drill.result c.lines.result c.lines.ensures
