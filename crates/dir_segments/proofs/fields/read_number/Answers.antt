use Rattle.std.proofs.Common.{◌≢◌, slice_index, sym, ◌∙◌, arith}
use Rattle.std.proofs.lemmas.Bool.{eqb-false}
use Rattle.dir_segments.proofs.RepetitionLemmas.{number_is-decimal, decimal_in-two}
use Rattle.dir_segments.proofs.fields.read_number.Goals as goal

pub overflow_cast-result : goal.overflow_cast-result
overflow_cast-result c = omega (arith, decimal_in-two c.args.field.now c.in_ok-number.number c.if-field-gt-MOST_NUMBER_DIGITS.false c.in_ok-number.ensures)

pub returns : goal.returns
returns c =
    let field = c.args.field.now in
    let nonzero : slice_index field 0 ≢ 48 = eqb-false (slice_index field 0) 48 (sym c.begins_with_zero.ensures ∙ c.if-begins_with_zero.false) in
    c.in_ok-number.ensures ∙ sym (number_is-decimal field c.if-field-gt-MOST_NUMBER_DIGITS.false nonzero)
