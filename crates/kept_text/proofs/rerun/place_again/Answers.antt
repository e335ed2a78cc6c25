use Rattle.std.proofs.Common.{◌≡◌, ℕ, ◌+◌, ◌<◌, ◌∷◌, Some, length, drop, sym, ap, ◌∙◌, subst, arith, length-drop}
use Rattle.std.specs.List.{slice_get}
use Rattle.std.proofs.lemmas.Option.{slice_get_within}
use Rattle.segment_records.specs.Records.{IsModeOf}
use Rattle.segment_records.specs.declared.mode.Mode.{Mode}
use Rattle.segment_records.proofs.Counts.{mode_more}
use Rattle.segment_records.proofs.Looking.{first_left, next_left}
use Rattle.kept_text.specs.Again.{StaysAfter, last_mode}
use Rattle.kept_text.proofs.LastMode.{last_mode_more, last_mode_same}
use Rattle.kept_text.proofs.PlacingAgain.{again_more, inner_more, kept_more, length_more, others_more, placed_one, stays_end, stays_here}
use Rattle.kept_text.proofs.rerun.place_again.Goals as goal

pub returns-then-stays_after-clause-stays : goal.returns-then-stays_after-clause-stays
returns-then-stays_after-clause-stays g c =
    let before = c.args.before.now in
    let old = c.args.old.now in
    let again = c.loop-record.again.items in
    let record_now = c.in-Some.record.now in
    let at : slice_get old (c.args.next + length again) ≡ Some record_now =
    first_left old (record_now ∷ c.next.new.self) (c.args.next + length again) (sym c.loop-record.invariant.rest ∙ c.in-Some.ensures.steps) in
    let mode_is = last_mode_same before c.mode_after-mode.result.now c.deref.result.now again c.mode_after-mode.ensures c.deref.ensures.value in
    let count : length again ≡ c.len.result = omega (arith, c.len.ensures) in
    subst (λ (n : ℕ). StaysAfter (last_mode before again) old (c.args.next + n)) count
    (stays_here c.args.directory.now before old c.args.next again c.loop-record.invariant.again record_now at
    c.mode_after-mode.result.now c.loop-record.kept.now mode_is c.loop-record.invariant.kept (c.stays_after.ensures.stays c.if-stays_after.true))

pub placed_again-requires : goal.placed_again-requires
placed_again-requires g c =
    let before = c.args.before.now in
    let old = c.args.old.now in
    let again = c.loop-record.again.items in
    let record_now = c.in-Some.record.now in
    let at : slice_get old (c.args.next + length again) ≡ Some record_now =
    first_left old (record_now ∷ c.next.new.self) (c.args.next + length again) (sym c.loop-record.invariant.rest ∙ c.in-Some.ensures.steps) in
    let low : c.args.next + length again < length old = slice_get_within old (c.args.next + length again) record_now at in
    let mode_is = last_mode_same before c.mode_after-mode.result.now c.deref.result.now again c.mode_after-mode.ensures c.deref.ensures.value in
    record {
      mode = mode_more c.args.directory.now (c.args.from + length again) 4194303 c.mode_after-mode.result.now (omega (arith, c.requires.short))
          (subst (IsModeOf c.args.directory.now (c.args.from + length again)) (sym mode_is) c.loop-record.invariant.mode);
    }

pub loop-record-preserved : goal.loop-record-preserved
loop-record-preserved g c =
    let dir = c.args.directory.now in
    let before = c.args.before.now in
    let old = c.args.old.now in
    let next = c.args.next in
    let it = c.loop-record.invariant in
    let again = c.loop-record.again.items in
    let more = c.push.new.self.items in
    let record_now = c.in-Some.record.now in
    let one = c.in_ok-placed_again.placed_again in
    let more_is = c.in_ok-push.ensures.items in
    let left : drop (next + length again) old ≡ record_now ∷ c.next.new.self = sym it.rest ∙ c.in-Some.ensures.steps in
    let at : slice_get old (next + length again) ≡ Some record_now = first_left old (record_now ∷ c.next.new.self) (next + length again) left in
    let mode_is = last_mode_same before c.mode_after-mode.result.now c.deref.result.now again c.mode_after-mode.ensures c.deref.ensures.value in
    let one_is = c.in_ok-placed_again.ensures.kept ∙ ap (λ (mode : Mode). placed_one dir mode record_now) mode_is in
    let count : length more ≡ length again + 1 = length_more dir before old next again it.again record_now at more one one_is more_is in
    let place : (next + length again) + 1 ≡ next + length more = omega arith in
    record {
      within = let low : next + length again < length old = slice_get_within old (next + length again) record_now at in omega arith;
      rest = sym (next_left old record_now c.next.new.self (next + length again) left) ∙ ap (λ (n : ℕ). drop n old) place;
      again = again_more dir before old next again it.again record_now at more one one_is more_is;
      kept = kept_more dir before old next again it.again record_now at more one one_is more_is c.mode-kept.result.now c.mode-kept.ensures;
      mode = let step : (c.args.from + length again) + 1 ≡ c.args.from + length more = omega arith in
          subst (λ (n : ℕ). IsModeOf dir n (last_mode before more)) step
          (subst (IsModeOf dir ((c.args.from + length again) + 1)) (sym (last_mode_more before again more one more_is))
          (c.in_ok-placed_again.ensures.mode (c.args.from + length again)
          (subst (IsModeOf dir (c.args.from + length again)) (sym mode_is) it.mode)));
      inner = inner_more dir before old next again it.again record_now at more one one_is more_is it.inner (c.stays_after.ensures.inner c.if-stays_after.false);
      others = others_more dir before old next again it.again record_now at more one one_is more_is it.others
          (λ meet. c.stays_after.ensures.other c.if-stays_after.false (mode_is ∙ meet ∙ sym it.kept));
      placed = omega (arith, c.in_ok-placed_again.ensures.counted, it.placed);
    }

pub returns-clause-stays : goal.returns-clause-stays
returns-clause-stays g c =
    let old = c.args.old.now in
    let again = c.loop-record.again.items in
    let none = ap length (sym c.loop-record.invariant.rest ∙ c.in-None.ensures.steps.0) in
    let count : length again ≡ c.len-2.result = omega (arith, c.len-2.ensures) in
    stays_end (last_mode c.args.before.now again) old (c.args.next + c.len-2.result)
    (omega (arith, none, length-drop (c.args.next + length again) old))
