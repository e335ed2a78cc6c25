use Rattle.std.proofs.Common.{◌≡◌, ◌∙◌, sym, arith}
use Rattle.dir_compile.proofs.NumberLemmas.{number-once}
use Rattle.dir_compile.proofs.known.are_same.Goals as goal

pub returns-then-this-le-MOST_OCTETS : goal.returns-then-this-le-MOST_OCTETS
returns-then-this-le-MOST_OCTETS g c same =
    let numbers : c.number_of.result ≡ c.number_of-then-this-le-MOST_OCTETS.result = grind (arith, same) in
    number-once c.args.one.now c.args.other.now c.number_of.ensures.small c.number_of-then-this-le-MOST_OCTETS.ensures.small
    (sym c.number_of.ensures.number ∙ (numbers ∙ c.number_of-then-this-le-MOST_OCTETS.ensures.number))
