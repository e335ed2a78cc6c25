use Rattle.std.proofs.Common.{◌-◌, arith}
use Rattle.edi_history.specs.Bounds.{IsEditBounded}
use Rattle.edi_history.proofs.Made.{made-more}
use Rattle.edi_history.proofs.batch.make_edits.Goals as goal

pub loop-edit-preserved : goal.loop-edit-preserved
loop-edit-preserved g c =
    let edit = c.edit-item.result in
    let put = c.octets-put.ensures in
    let lexes = rw put at c.in-Ok.ensures.lexed in
    let places = rw put at c.in-Ok.ensures.placed in
    let reaches = rw put at c.in-Ok.ensures.reach in
    let reruns = rw put at c.in-Ok.ensures.rerun in
    let bounds = rw put at c.in-Ok.ensures.bounded in
    let own : IsEditBounded c.loop-edit.engine.directory c.loop-edit.engine.text edit (c.replace.new.lexed - c.loop-edit.lexed) (c.replace.new.placed - c.loop-edit.placed) = record {
      whole_lexed = omega arith;
      whole_placed = omega arith;
      reach = λ stays. let most = reaches stays in omega arith;
      rerun = λ stays. let most = reruns stays in omega arith;
      bounded = bounds;
    } in
    rw (c.in-Ok.ensures.edit.1, put)
    (made-more c.args.engine.now c.args.edits.now c.args.lexed.now c.args.placed.now c.loop-edit.edit-index c.loop-edit.engine c.loop-edit.lexed c.loop-edit.placed edit c.replace.new.lexed c.replace.new.placed c.loop-edit.invariant c.loop-edit-test.true c.edit-item.is lexes places own)
