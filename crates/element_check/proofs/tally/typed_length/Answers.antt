use Rattle.std.proofs.Common.{◌∙◌, ap, sym}
use Rattle.edi_tables.specs.declared.element.Class.TheVariants.{An}
use Rattle.element_check.specs.Tally.{length_if_typed}
use Rattle.element_check.proofs.TypedLemmas.{all_an, digitless, digit_there}
use Rattle.element_check.proofs.tally.typed_length.Goals as goal

pub returns-then-has_digit : goal.returns-then-has_digit
returns-then-has_digit c =
    rw c.in-A.is (digit_there c.args.service.now c.args.octets.now (sym c.has_digit.ensures ∙ c.if-has_digit.true))

pub returns-in-An : goal.returns-in-An
returns-in-An c = rw c.in-An.is (ap (length_if_typed An) (all_an c.args.service.now c.args.octets.now))

pub returns-else-has_digit : goal.returns-else-has_digit
returns-else-has_digit c =
    rw c.in-A.is (digitless c.args.service.now c.args.octets.now (sym c.has_digit.ensures ∙ c.if-has_digit.false))
