use Rattle.std.proofs.Common.{ap}
use Rattle.std.proofs.lemmas.Result.{on_ok_weaker}
use Rattle.kept_text.specs.Reading.{Reading}
use Rattle.drill_printer.proofs.PartLemmas.{edited_parts}
use Rattle.drill_printer.proofs.drill.put_edited.Goals as goal

pub returns : goal.returns
returns g c =
    on_ok_weaker c.put_counts-2.result
    (edited_parts c.args.number c.args.edits c.in_ok-total.total c.args.octets.now c.in_ok-engine.engine.text c.apply_edits.new.engine.text
    c.args.out.now c.put_counts.new.out c.put_total.new.out c.put_counts-2.new.out
    (ap (λ (e : Reading). e.text) c.in_ok-engine.ensures.opened) c.in_ok-total.ensures.total c.in_ok-total.ensures.text
    c.in_ok-put_counts.ensures c.in_ok-put_total.ensures)
    c.put_counts-2.ensures
