use Rattle.listing_printer.proofs.LinesLemmas.{printed_is}
use Rattle.listing_printer.proofs.text.print_text.Goals as goal

pub returns : goal.returns
returns c =
    let listed = c.in_ok-count.ensures in
    rw c.in_ok-head.ensures (printed_is c.args.detail c.args.text.now _ _ listed.count listed.lines)
