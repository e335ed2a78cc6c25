use Rattle.std.proofs.Common.{◌≢◌, slice_index, sym, ◌∙◌, arith}
use Rattle.std.proofs.lemmas.Bool.{eqb-false}
use Rattle.edi_octets.proofs.ProfileLemmas.{length_in-read, decimal_in-small}
use Rattle.edi_octets.proofs.profile.read_length.Goals as goal

pub overflow_cast-result : goal.overflow_cast-result
overflow_cast-result c = omega (arith, decimal_in-small c.args.field.now c.in_ok-length.length c.if-field-gt-MOST_LENGTH_DIGITS.false c.in_ok-length.ensures)

pub returns : goal.returns
returns c =
    let field = c.args.field.now in
    let nonzero : slice_index field 0 ≢ 48 = eqb-false (slice_index field 0) 48 (sym c.begins_with_zero.ensures ∙ c.if-begins_with_zero.false) in
    c.in_ok-length.ensures ∙ sym (length_in-read field c.if-field-gt-MOST_LENGTH_DIGITS.false nonzero)
