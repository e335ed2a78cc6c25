use Rattle.std.proofs.Common.{◌≡◌, ◌≤◌, ◌<◌, true, false, length, take, arith, sym, ◌∙◌, take_all, length-set}
use Rattle.std.proofs.lemmas.List.{length-take}
use Rattle.std.proofs.lemmas.Result.{err_from_is_err_and}
use Rattle.std.specs.Char.{is_ascii_digit}
use Rattle.edit_script.specs.Texts.{IsDigitsText}
use Rattle.edit_script.proofs.DigitLemmas.{digits_part, digits_bad, digits_unended, digits_whole, digit_set, takes_set}
use Rattle.edit_script.proofs.ReadingLemmas.{takes_same, reads_no_more, reads_bad, reads_whole}
use Rattle.edit_script.proofs.words.take_digits.Goals as goal

pub returns-in_err-octet-clause-reads : goal.returns-in_err-octet-clause-reads
returns-in_err-octet-clause-reads g c =
    let p = err_from_is_err_and c.from_residual.result c.from_residual.ensures.1 in
    let held = c.loop-digit.invariant in
    let few : length (take c.loop-digit.digit-index c.loop-digit.digit-items) ≤ g.row.N = omega (arith, held.long, length-take c.loop-digit.digit-index c.loop-digit.digit-items) in
    rw (p.1, p.2) (reads_no_more (IsDigitsText g.row.N c.args.end) _ _ _ (take c.loop-digit.digit-index c.loop-digit.digit-items) _ (digits_part _ _ _ held.digits few) held.takes c.in_err-octet.ensures.reads)

pub returns-then-not-is_ascii_digit-clause-reads : goal.returns-then-not-is_ascii_digit-clause-reads
returns-then-not-is_ascii_digit-clause-reads g c =
    let held = c.loop-digit.invariant in
    let few : length (take c.loop-digit.digit-index c.loop-digit.digit-items) < g.row.N = omega (arith, held.long, c.loop-digit-test.true, length-take c.loop-digit.digit-index c.loop-digit.digit-items) in
    let other : is_ascii_digit c.in_ok-octet.octet ≡ false = sym c.is_ascii_digit.ensures.value ∙ c.if-not-is_ascii_digit.true in
    reads_bad (IsDigitsText g.row.N c.args.end) _ _ _ (take c.loop-digit.digit-index c.loop-digit.digit-items) _ (digits_part _ _ _ held.digits (omega (arith, few))) (digits_bad _ _ _ _ c.requires.apart other held.digits few) held.takes c.in_ok-octet.ensures.reads

pub loop-digit-preserved : goal.loop-digit-preserved
loop-digit-preserved g c =
    let held = c.loop-digit.invariant in
    let inside : c.loop-digit.digit-index < length c.loop-digit.digit-items = omega (arith, held.long, c.loop-digit-test.true) in
    let digit : is_ascii_digit c.in_ok-octet.octet ≡ true = sym c.is_ascii_digit.ensures.value ∙ c.if-not-is_ascii_digit.false in
    record {
      long = length-set _ _ _ ∙ held.long;
      digits = digit_set _ _ _ inside digit held.digits;
      takes = takes_set _ _ _ _ _ _ inside held.takes c.in_ok-octet.ensures.reads;
      counted = omega (arith, c.in_ok-octet.ensures.fair.counted);
      steady = λ was. (c.in_ok-octet.ensures.fair.steady (held.steady was)).1;
    }

pub returns-in_err-take_octet-clause-reads : goal.returns-in_err-take_octet-clause-reads
returns-in_err-take_octet-clause-reads g c =
    let p = err_from_is_err_and c.from_residual-in_err-take_octet.result c.from_residual-in_err-take_octet.ensures.1 in
    let held = c.loop-digit.invariant in
    let few : length (take c.loop-digit.digit-index c.loop-digit.digit-items) ≤ g.row.N = omega (arith, held.long, length-take c.loop-digit.digit-index c.loop-digit.digit-items) in
    rw (p.1, p.2) (reads_no_more (IsDigitsText g.row.N c.args.end) _ _ _ (take c.loop-digit.digit-index c.loop-digit.digit-items) _ (digits_part _ _ _ held.digits few) held.takes c.in_err-take_octet.ensures.reads)

pub returns-then-branch-end-clause-reads : goal.returns-then-branch-end-clause-reads
returns-then-branch-end-clause-reads g c =
    let held = c.loop-digit.invariant in
    let whole : take c.loop-digit.digit-index c.loop-digit.digit-items ≡ c.loop-digit.digit-items = take_all c.loop-digit.digit-index c.loop-digit.digit-items (omega (arith, held.long, c.loop-digit-test.false)) in
    let digits = rw whole at held.digits in
    reads_bad (IsDigitsText g.row.N c.args.end) _ _ _ c.loop-digit.digit-items _ (digits_part _ _ _ digits (omega (arith, held.long))) (digits_unended _ _ _ _ c.requires.apart c.if-branch-end.true digits held.long) (takes_same _ _ _ _ whole held.takes) c.in_ok-take_octet.ensures.reads

pub returns-clause-reads : goal.returns-clause-reads
returns-clause-reads g c =
    let held = c.loop-digit.invariant in
    let whole : take c.loop-digit.digit-index c.loop-digit.digit-items ≡ c.loop-digit.digit-items = take_all c.loop-digit.digit-index c.loop-digit.digit-items (omega (arith, held.long, c.loop-digit-test.false)) in
    reads_whole (IsDigitsText g.row.N c.args.end) _ _ _ c.loop-digit.digit-items c.in_ok-take_octet.field-0 _ (digits_whole _ _ _ _ c.if-branch-end.false (rw whole at held.digits) held.long) (takes_same _ _ _ _ whole held.takes) c.in_ok-take_octet.ensures.reads
