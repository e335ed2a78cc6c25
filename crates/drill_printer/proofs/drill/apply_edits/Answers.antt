use Rattle.std.proofs.Common.{◌≡◌, ◌+◌, refl, ap, ◌∙◌, arith}
use Rattle.drill_printer.specs.Drill.{error_count, text_drilled}
use Rattle.drill_printer.proofs.DrillLemmas.{drilled_more, drilled_none, room_left, sum_more}
use Rattle.drill_printer.proofs.drill.apply_edits.Goals as goal

pub loop-j-init : goal.loop-j-init
loop-j-init g c = record {
  directory = c.requires.directory;
  text = drilled_none c.args.number c.args.engine.now.text;
  total = refl;
  small = omega arith;
}

pub apply_edit-requires-clause-room : goal.apply_edit-requires-clause-room
apply_edit-requires-clause-room g c = room_left c.args.number c.loop-j.j c.args.engine.now.text c.loop-j.engine.text c.loop-j.invariant.text

pub loop-j-preserved : goal.loop-j-preserved
loop-j-preserved g c =
    let more : c.apply_edit.new.engine.text ≡ text_drilled c.args.number (c.loop-j.j + 1) c.args.engine.now.text =
    drilled_more c.args.number c.loop-j.j c.args.engine.now.text c.loop-j.engine.text c.apply_edit.new.engine.text c.loop-j.invariant.text c.in_ok-apply_edit.ensures.text in
    record {
      directory = c.in_ok-apply_edit.ensures.directory ∙ c.loop-j.invariant.directory;
      text = more;
      total = sum_more c.args.number c.loop-j.j c.args.engine.now.text c.loop-j.total (c.loop-j.total + c.from.result) c.from.result c.loop-j.invariant.total
          (c.from.ensures ∙ c.in_ok-count_errors.ensures ∙ ap error_count more) refl;
      small = omega arith;
    }
