use Rattle.std.specs.Prelude.{decimal}
use Rattle.listing_printer.proofs.TableLemmas.{shown_next}
use Rattle.listing_printer.proofs.tables.put_entries.Goals as goal

pub loop-i-preserved : goal.loop-i-preserved
loop-i-preserved c =
    shown_next decimal c.args.entries.now c.loop-i.i 0 c.args.out.now c.loop-i.out c.put_gap.new.out c.put_decimal.new.out c.loop-i-test.true c.loop-i.invariant c.in_ok-put_gap.ensures (rw c.from.ensures at c.in_ok-put_decimal.ensures.ok)
