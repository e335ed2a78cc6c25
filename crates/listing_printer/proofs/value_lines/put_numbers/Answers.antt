use Rattle.std.proofs.Common.{◌∙◌}
use Rattle.std.proofs.lemmas.Result.{on_ok_weaker}
use Rattle.listing_printer.proofs.ValuesLemmas.{numbers-of-one-digit}
use Rattle.listing_printer.proofs.value_lines.put_numbers.Goals as goal

pub returns-then-component-lt10 : goal.returns-then-component-lt10
returns-then-component-lt10 c =
    on_ok_weaker c.add.result
    (λ put. put ∙ numbers-of-one-digit c.args.lines.now c.args.element c.args.repetition c.args.component c.if-element-lt10.true c.if-repetition-eq1.true c.if-component-lt10.true)
    c.add.ensures.ok
