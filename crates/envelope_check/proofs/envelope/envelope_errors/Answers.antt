use Rattle.std.proofs.Common.{◌-◌, ◌+◌, List, length, drop, refl, ap, sym, subst, ◌∙◌, arith}
use Rattle.envelope_check.specs.Head.{Head}
use Rattle.envelope_check.specs.Known.{head_here, heads_after}
use Rattle.envelope_check.proofs.Coming.{after_back, done_from, from_place, run_from}
use Rattle.envelope_check.proofs.Progress.{IsDone, done_first, done_next, done_all, next_to_come}
use Rattle.envelope_check.proofs.envelope.envelope_errors.Goals as goal

pub loop-known-init : goal.loop-known-init
loop-known-init g c = record {
  same = refl;
  within = omega arith;
  done = done_first _ _ _ _ c.requires.fits c.first-known.ensures c.in_ok-errors.ensures;
}

pub sound_run-sound-requires : goal.sound_run-sound-requires
sound_run-sound-requires g c =
    rw (from_place c.args.heads.now c.loop-known.done)
    (rw c.requires.total (next_to_come _ _ _ _ _ c.loop-known.invariant.done))

pub after_others-known-requires : goal.after_others-known-requires
after_others-known-requires g c =
    omega (arith, c.requires.total, run_from _ _ _ _ _ _ _ c.requires.total c.loop-known.invariant.done c.sound_run-sound.ensures)

pub returns-then-known-total-clause-all : goal.returns-then-known-total-clause-all
returns-then-known-total-clause-all g c =
    let skipped = done_from _ _ _ _ _ _ _ c.requires.total c.loop-known.invariant.done c.sound_run-sound.ensures _ c.after_others-known.ensures in
    done_all _ _ _ _ _ _ skipped (omega (arith, c.if-known-total.true, c.requires.total))

pub overflow_add-number : goal.overflow_add-number
overflow_add-number g c =
    let skipped = done_from _ _ _ _ _ _ _ c.requires.total c.loop-known.invariant.done c.sound_run-sound.ensures _ c.after_others-known.ensures in
    omega (arith, skipped.within, c.if-known-total.false, c.requires.total)

pub push_segment_errors-requires-clause-last : goal.push_segment_errors-requires-clause-last
push_segment_errors-requires-clause-last g c =
    let skipped = done_from _ _ _ _ _ _ _ c.requires.total c.loop-known.invariant.done c.sound_run-sound.ensures _ c.after_others-known.ensures in
    omega (arith, skipped.within, c.if-known-total.false, c.requires.total, ap length c.loop-known.invariant.same)

pub push_segment_errors-requires-clause-few : goal.push_segment_errors-requires-clause-few
push_segment_errors-requires-clause-few g c =
    let skipped = done_from _ _ _ _ _ _ _ c.requires.total c.loop-known.invariant.done c.sound_run-sound.ensures _ c.after_others-known.ensures in
    omega (arith, skipped.within, c.if-known-total.false, c.requires.total)

pub after-known-requires : goal.after-known-requires
after-known-requires g c =
    let skipped = done_from _ _ _ _ _ _ _ c.requires.total c.loop-known.invariant.done c.sound_run-sound.ensures _ c.after_others-known.ensures in
    omega (arith, skipped.within, c.if-known-total.false, c.requires.total)

pub loop-known-preserved : goal.loop-known-preserved
loop-known-preserved g c =
    let heads = c.args.heads.now in
    let rest = from_place heads c.loop-known.done in
    let number = c.after_others-known.result.segments + 1 in
    let skipped = done_from _ _ _ _ _ _ _ c.requires.total c.loop-known.invariant.done c.sound_run-sound.ensures _ c.after_others-known.ensures in
    let head_is = c.split_here.ensures.head ∙ ap (λ (hs : List Head). head_here hs number) rest in
    let after_is = c.split_here.ensures.after ∙ ap (λ (hs : List Head). heads_after hs number) rest in
    let back = ap (λ (hs : List Head). drop (length heads - length hs) heads) after_is
    ∙ after_back heads c.loop-known.done number c.loop-known.invariant.within ∙ sym after_is in
    record {
      same = c.push_segment_errors.ensures.same ∙ c.loop-known.invariant.same;
      within = omega arith;
      done = subst (λ (hs : List Head). IsDone heads (g.M.SegmentMarks.marks c.args.marks.now) c.after-known.result.segments c.after-known.result hs c.push_segment_errors.new.errors.items) (sym back)
          (done_next _ _ _ _ _ _ _ _ _ _ _ (omega (arith, skipped.within, c.if-known-total.false, c.requires.total)) c.loop-known.invariant.same skipped head_is after_is
          refl c.in_ok-push_segment_errors.ensures.told c.after-known.ensures);
    }

pub returns-clause-all : goal.returns-clause-all
returns-clause-all g c = done_all _ _ _ _ _ _ c.loop-known.invariant.done (omega (arith, c.loop-known-test.false, c.requires.total))
