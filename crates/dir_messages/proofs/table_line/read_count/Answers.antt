use Rattle.std.proofs.Common.{◌∙◌, sym, arith}
use Rattle.dir_messages.proofs.CountLemmas.{count_in-read, decimal_in-few}
use Rattle.dir_messages.proofs.table_line.read_count.Goals as goal

pub returns-in_err-count : goal.returns-in_err-count
returns-in_err-count c =
    c.from_residual.ensures ∙ (c.in_err-count.ensures ∙ sym (count_in-read c.args.digits.now c.requires c.if-digits-gt-MOST_DIGITS.false))

pub overflow_cast-result : goal.overflow_cast-result
overflow_cast-result c =
    omega (arith, decimal_in-few c.args.digits.now c.in_ok-count.count c.requires c.if-digits-gt-MOST_DIGITS.false c.in_ok-count.ensures)

pub returns : goal.returns
returns c = c.in_ok-count.ensures ∙ sym (count_in-read c.args.digits.now c.requires c.if-digits-gt-MOST_DIGITS.false)
