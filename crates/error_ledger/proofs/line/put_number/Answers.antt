use Rattle.std.proofs.Common.{◌∙◌, arith}
use Rattle.std.proofs.lemmas.Fmt.{decimal_digit}
use Rattle.itoa.proofs.Decimal.{decimal_two}
use Rattle.error_ledger.proofs.LineLemmas.{most_digits, spaces_before}
use Rattle.error_ledger.proofs.line.put_number.Goals as goal

pub returns-then-n-lt10-clause-line : goal.returns-then-n-lt10-clause-line
returns-then-n-lt10-clause-line c = rw (decimal_digit c.args.n c.if-n-lt10.true) c.put.ensures.line

pub returns-then-n-lt100-clause-line : goal.returns-then-n-lt100-clause-line
returns-then-n-lt100-clause-line c = rw (decimal_two c.args.n c.if-n-lt10.false c.if-n-lt100.true) c.put-then-n-lt100.ensures.line

pub write_digits-requires : goal.write_digits-requires
write_digits-requires c = (omega (arith, most_digits c.from.result (omega (arith, c.ranges.n.fits))), omega arith)

pub returns-clause-few_digits : goal.returns-clause-few_digits
returns-clause-few_digits c = omega (arith, most_digits c.from.result (omega (arith, c.ranges.n.fits)))

pub returns-clause-before : goal.returns-clause-before
returns-clause-before c =
    c.write_digits.ensures.before ∙ spaces_before c.args.room.now c.args.at c.write_digits.result (omega arith) c.requires.before
