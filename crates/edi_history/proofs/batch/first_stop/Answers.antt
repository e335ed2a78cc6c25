use Rattle.std.proofs.Common.{sym, ◌∙◌, ◌≡◌, None, length}
use Rattle.edi_engine.specs.Edit.{stop_by}
use Rattle.edi_history.proofs.Judged.{judged-more}
use Rattle.edi_history.proofs.batch.first_stop.Goals as goal

pub loop-i-preserved : goal.loop-i-preserved
loop-i-preserved c =
    let edit = c.index-edits-i.result in
    let none : stop_by c.loop-i.length edit.at edit.cut (length edit.put) ≡ None =
    rw c.octets.ensures at (sym c.stop_by.ensures ∙ c.in_default.is)
    in
    rw c.octets.ensures
    (judged-more c.args.engine.now.text c.args.edits.now c.loop-i.i c.loop-i.length edit c.loop-i.invariant c.loop-i-test.true c.index-edits-i.is none)
