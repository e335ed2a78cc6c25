use Rattle.std.proofs.Common.{◌<◌, [], length, take, arith, ◌∙◌, length-set}
use Rattle.std.proofs.lemmas.Result.{err_from_is_err_and}
use Rattle.edit_script.specs.Rest.{IsEditsText}
use Rattle.edit_script.proofs.EditLemmas.{edits_part_empty, edits_none, edit_written, edit_stopped, edits_all}
use Rattle.edit_script.proofs.ReadingLemmas.{takes_nothing, reads_refused}
use Rattle.edit_script.proofs.batch.take_edits.Goals as goal

pub returns-in_err-edits-clause-reads : goal.returns-in_err-edits-clause-reads
returns-in_err-edits-clause-reads g c =
    let p = err_from_is_err_and c.from_residual.result c.from_residual.ensures.1 in
    rw (p.1, p.2) (reads_refused (IsEditsText c.args.count) _ _ [] (edits_part_empty c.args.count c.requires.some) (takes_nothing _))

pub loop-place-init : goal.loop-place-init
loop-place-init g c = record {
  long = c.in_ok-edits.ensures;
  reads = ([], takes_nothing _, edits_none);
  counted = omega arith;
  steady = λ was. was;
}

pub returns-in_err-edit-clause-reads : goal.returns-in_err-edit-clause-reads
returns-in_err-edit-clause-reads g c =
    let p = err_from_is_err_and c.from_residual-in_err-edit.result c.from_residual-in_err-edit.ensures.1 in
    rw (p.1, p.2) (edit_stopped _ _ _ (take c.loop-place.place c.loop-place.edits.items) c.loop-place.place c.args.count _ c.loop-place-test.true c.loop-place.invariant.reads c.in_err-edit.ensures.reads)

pub loop-place-preserved : goal.loop-place-preserved
loop-place-preserved g c =
    let held = c.loop-place.invariant in
    let inside : c.loop-place.place < length c.loop-place.edits.items = omega (arith, held.long, c.loop-place-test.true) in
    record {
      long = length-set _ _ _ ∙ held.long;
      reads = edit_written _ _ _ c.loop-place.edits.items c.loop-place.place c.in_ok-edit.edit inside held.reads c.in_ok-edit.ensures.reads;
      counted = omega (arith, c.in_ok-edit.ensures.fair.counted);
      steady = λ was. (c.in_ok-edit.ensures.fair.steady (held.steady was)).1;
    }

pub returns-clause-reads : goal.returns-clause-reads
returns-clause-reads g c =
    rw c.of.ensures (edits_all _ _ c.loop-place.edits.items c.loop-place.place c.args.count c.loop-place.invariant.long c.loop-place-test.false c.loop-place.invariant.reads)
