use Rattle.std.proofs.Common.{◌∙◌}
use Rattle.drill_printer.proofs.PartLemmas.{drill_parts}
use Rattle.drill_printer.proofs.drill.print_drill.Goals as goal

pub returns : goal.returns
returns c =
    drill_parts c.args.messages c.args.edits c.args.number c.octets.result.now c.empty-out.result c.put_numbers.new.out c.put_drilled.new.out
    (c.octets.ensures ∙ c.in_ok-text.ensures.text) c.empty-out.ensures
    (rw (c.from.ensures, c.from-2.ensures) at c.in_ok-put_numbers.ensures) c.in_ok-put_drilled.ensures
