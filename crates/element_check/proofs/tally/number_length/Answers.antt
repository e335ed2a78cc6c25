use Rattle.std.proofs.Common.{◌∙◌, ap, sym, arith}
use Rattle.std.proofs.lemmas.Bool.Decides.{nat_tests}
use Rattle.edi_tables.specs.declared.element.Class.TheVariants.{N}
use Rattle.element_check.specs.Tally.{length_if_typed}
use Rattle.element_check.proofs.TypedLemmas.{typed_digits}
use Rattle.element_check.proofs.tally.number_length.Goals as goal

pub returns-then-are_digits : goal.returns-then-are_digits
returns-then-are_digits c =
    ap (length_if_typed N)
    (sym (typed_digits c.args.service.now c.args.octets.now (λ none. grind (arith, nat_tests, c.is_empty.ensures, c.if-not-is_empty.true)) (sym c.are_digits.ensures ∙ c.if-are_digits.true)))
