use Rattle.std.proofs.Common.{◌≡◌, ◌+◌, ◌≤◌, true, get_or, sym, ◌∙◌, arith}
use Rattle.std.specs.Char.{is_ascii_digit}
use Rattle.std.proofs.lemmas.List.{take_rest}
use Rattle.dir_store.proofs.UsualLemmas.{digit-range, digits-more, number-word, small-number, value-more}
use Rattle.dir_store.proofs.usual_row.number_to.Goals as goal

pub returns-then-place-ne0-clause-word : goal.returns-then-place-ne0-clause-word
returns-then-place-ne0-clause-word c =
    rw (take_rest c.args.octets.now (c.loop-place.place + 1))
    (number-word c.args.octets.now c.loop-place.place c.args.separator c.loop-place.n (omega (arith, c.if-place-ne0.true)) c.loop-place.invariant.few c.loop-place-test.true
    c.if-octet-separator.true c.loop-place.invariant.digits (sym c.has_leading_zero.ensures ∙ c.if-has_leading_zero.false) c.loop-place.invariant.value)

pub returns-then-place-ne0-clause-small : goal.returns-then-place-ne0-clause-small
returns-then-place-ne0-clause-small c =
    small-number c.args.octets.now c.loop-place.place c.loop-place.n c.loop-place.invariant.few c.loop-place.invariant.digits c.loop-place.invariant.value

pub overflow_mul-n : goal.overflow_mul-n
overflow_mul-n c =
    let small : c.loop-place.n ≤ 999999 = small-number c.args.octets.now c.loop-place.place c.loop-place.n c.loop-place.invariant.few c.loop-place.invariant.digits c.loop-place.invariant.value in
    omega arith

pub overflow_add-n : goal.overflow_add-n
overflow_add-n c =
    let small : c.loop-place.n ≤ 999999 = small-number c.args.octets.now c.loop-place.place c.loop-place.n c.loop-place.invariant.few c.loop-place.invariant.digits c.loop-place.invariant.value in
    let digit : is_ascii_digit (get_or c.args.octets.now c.loop-place.place 0) ≡ true = sym c.is_ascii_digit.ensures.value ∙ c.if-not-is_ascii_digit.false in
    let range = digit-range (get_or c.args.octets.now c.loop-place.place 0) digit in
    omega (arith, c.from.ensures, range)

pub loop-place-preserved : goal.loop-place-preserved
loop-place-preserved c =
    let octets = c.args.octets.now in
    let digit : is_ascii_digit (get_or octets c.loop-place.place 0) ≡ true = sym c.is_ascii_digit.ensures.value ∙ c.if-not-is_ascii_digit.false in
    record {
      few = omega (arith, c.if-place-ge-MOST_DIGITS.false);
      digits = digits-more octets c.loop-place.place c.loop-place-test.true c.loop-place.invariant.digits digit;
      value = omega (arith, c.from.ensures, value-more octets c.loop-place.place c.loop-place.n c.loop-place-test.true digit c.loop-place.invariant.value);
    }
