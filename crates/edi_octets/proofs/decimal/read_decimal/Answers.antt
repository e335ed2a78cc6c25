use Rattle.std.proofs.Common.{◌≡◌, ◌≢◌, ◌+◌, true, Some, length, take, sym, ap, ◌∙◌, arith, take_all}
use Rattle.std.proofs.lemmas.Bool.{eqb-false}
use Rattle.std.specs.Str.{all_ascii_digits}
use Rattle.std.specs.Str.Parse.{digits_value}
use Rattle.edi_octets.proofs.DecimalLemmas.{digit_between, digits_value-step, digits_value-fits, decimal_in-value}
use Rattle.edi_octets.proofs.decimal.read_decimal.Goals as goal

pub overflow_mul-n : goal.overflow_mul-n
overflow_mul-n c =
    let digits : all_ascii_digits c.args.part.now ≡ true = sym c.are_digits.ensures ∙ c.if-not-are_digits.false in
    let step = digits_value-step c.args.part.now c.loop-octet.octet-index digits c.loop-octet-test.true in
    let fits = digits_value-fits c.args.part.now (c.loop-octet.octet-index + 1) digits c.if-part-gt-MOST_DIGITS.false in
    omega (arith, step, fits)

pub overflow_sub-octet : goal.overflow_sub-octet
overflow_sub-octet c =
    let digits : all_ascii_digits c.args.part.now ≡ true = sym c.are_digits.ensures ∙ c.if-not-are_digits.false in
    omega (arith, digit_between c.args.part.now c.loop-octet.octet-index digits c.loop-octet-test.true)

pub overflow_add-n : goal.overflow_add-n
overflow_add-n c =
    let digits : all_ascii_digits c.args.part.now ≡ true = sym c.are_digits.ensures ∙ c.if-not-are_digits.false in
    let step = digits_value-step c.args.part.now c.loop-octet.octet-index digits c.loop-octet-test.true in
    let fits = digits_value-fits c.args.part.now (c.loop-octet.octet-index + 1) digits c.if-part-gt-MOST_DIGITS.false in
    omega (arith, step, fits)

pub loop-octet-preserved : goal.loop-octet-preserved
loop-octet-preserved c =
    let digits : all_ascii_digits c.args.part.now ≡ true = sym c.are_digits.ensures ∙ c.if-not-are_digits.false in
    omega (arith, digits_value-step c.args.part.now c.loop-octet.octet-index digits c.loop-octet-test.true)

pub returns : goal.returns
returns c =
    let part = c.args.part.now in
    let digits : all_ascii_digits part ≡ true = sym c.are_digits.ensures ∙ c.if-not-are_digits.false in
    let whole : take c.loop-octet.octet-index part ≡ part = take_all c.loop-octet.octet-index part c.loop-octet-test.false in
    let value : c.loop-octet.n ≡ digits_value 10 part = c.loop-octet.invariant ∙ ap (digits_value 10) whole in
    let some : length part ≢ 0 = eqb-false _ 0 (sym c.is_empty.ensures ∙ c.if-is_empty.false) in
    ap Some value ∙ sym (decimal_in-value part (omega arith) c.if-part-gt-MOST_DIGITS.false digits)
