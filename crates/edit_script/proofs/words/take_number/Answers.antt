use Rattle.std.proofs.Common.{◌++◌, [], ◌∷◌, decimal, arith, sym, ap, ◌∙◌}
use Rattle.std.proofs.lemmas.Result.{err_from_is_err_and}
use Rattle.edit_script.specs.Texts.{IsNumberText}
use Rattle.edit_script.proofs.NumberLemmas.{number_part, number_part_empty, number_bad_first, number_bad_zero, number_bad, takes_digit, takes_longer, digit_range}
use Rattle.edit_script.proofs.ReadingLemmas.{takes_nothing, reads_no_more, reads_bad, reads_whole}
use Rattle.edit_script.proofs.words.take_number.Goals as goal

pub returns-in_err-first-clause-reads : goal.returns-in_err-first-clause-reads
returns-in_err-first-clause-reads g c =
    let p = err_from_is_err_and c.from_residual.result c.from_residual.ensures.1 in
    rw (p.1, p.2) (reads_no_more (IsNumberText c.args.least c.args.most c.args.end) _ _ _ [] _ (number_part_empty c.args.least _ _ c.requires.low c.requires.wide) (takes_nothing _) c.in_err-first.ensures.reads)

pub returns-then-not-is_ascii_digit-clause-reads : goal.returns-then-not-is_ascii_digit-clause-reads
returns-then-not-is_ascii_digit-clause-reads g c =
    reads_bad (IsNumberText c.args.least c.args.most c.args.end) _ _ _ [] _ (number_part_empty c.args.least _ _ c.requires.low c.requires.wide) (number_bad_first c.args.least _ _ _ c.requires.fits (sym c.is_ascii_digit.ensures.value ∙ c.if-not-is_ascii_digit.true)) (takes_nothing _) c.in_ok-first.ensures.reads

pub returns-then-number-least-clause-reads : goal.returns-then-number-least-clause-reads
returns-then-number-least-clause-reads g c =
    let digit = sym c.is_ascii_digit.ensures.value ∙ c.if-not-is_ascii_digit.false in
    reads_bad (IsNumberText c.args.least c.args.most c.args.end) _ _ _ [] _ (number_part_empty c.args.least _ _ c.requires.low c.requires.wide) (number_bad_zero c.args.least _ _ c.in_ok-first.first c.requires.fits c.requires.low digit (omega (arith, c.if-number-least.true, c.from-number.ensures))) (takes_nothing _) c.in_ok-first.ensures.reads

pub loop-octet-init : goal.loop-octet-init
loop-octet-init g c = record {
  within = (
    omega (arith, c.if-number-least.false),
    omega (arith, c.from-number.ensures, digit_range c.in_ok-first.first (sym c.is_ascii_digit.ensures.value ∙ c.if-not-is_ascii_digit.false)),
  );
  takes = rw c.from-number.ensures (takes_digit _ _ c.in_ok-first.first (sym c.is_ascii_digit.ensures.value ∙ c.if-not-is_ascii_digit.false) c.in_ok-first.ensures.reads);
  counted = c.in_ok-first.ensures.fair.counted;
  steady = λ was. (c.in_ok-first.ensures.fair.steady was).1;
}

pub returns-in_err-octet-clause-reads : goal.returns-in_err-octet-clause-reads
returns-in_err-octet-clause-reads g c =
    let p = err_from_is_err_and c.from_residual-in_err-octet.result c.from_residual-in_err-octet.ensures.1 in
    rw (p.1, p.2) (reads_no_more (IsNumberText c.args.least c.args.most c.args.end) _ _ _ (decimal c.loop-octet.number) _ (number_part c.args.least _ _ _ c.loop-octet.invariant.within) c.loop-octet.invariant.takes c.in_err-octet.ensures.reads)

pub returns-then-octet-end-clause-reads : goal.returns-then-octet-end-clause-reads
returns-then-octet-end-clause-reads g c =
    reads_whole (IsNumberText c.args.least c.args.most c.args.end) _ _ _ (decimal c.loop-octet.number) c.in_ok-octet.octet _ (c.loop-octet.invariant.within, ap (λ x. decimal c.loop-octet.number ++ x ∷ []) c.if-octet-end.true) c.loop-octet.invariant.takes c.in_ok-octet.ensures.reads

pub loop-octet-preserved : goal.loop-octet-preserved
loop-octet-preserved g c = record {
  within = (omega (arith, c.in-Some.ensures.0.2, c.loop-octet.invariant.within.0), c.in-Some.ensures.1);
  takes = takes_longer _ _ _ c.args.most _ _ _ c.requires.fits c.in-Some.ensures.0 c.in-Some.ensures.1 c.loop-octet.invariant.takes c.in_ok-octet.ensures.reads;
  counted = omega (arith, c.in_ok-octet.ensures.fair.counted);
  steady = λ was. (c.in_ok-octet.ensures.fair.steady (c.loop-octet.invariant.steady was)).1;
}

pub returns-in-None-clause-reads : goal.returns-in-None-clause-reads
returns-in-None-clause-reads g c =
    reads_bad (IsNumberText c.args.least c.args.most c.args.end) _ _ _ (decimal c.loop-octet.number) _ (number_part c.args.least _ _ _ c.loop-octet.invariant.within) (number_bad c.args.least _ _ _ _ c.requires.fits c.requires.apart c.loop-octet.invariant.within c.if-octet-end.false c.in-None.ensures) c.loop-octet.invariant.takes c.in_ok-octet.ensures.reads
