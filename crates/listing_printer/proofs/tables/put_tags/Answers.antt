use Rattle.listing_printer.proofs.TableLemmas.{shown_next}
use Rattle.listing_printer.proofs.tables.put_tags.Goals as goal

pub loop-i-preserved : goal.loop-i-preserved
loop-i-preserved c =
    shown_next (λ t. t.octets) c.args.tags.now c.loop-i.i _ c.args.out.now c.loop-i.out c.put_gap.new.out c.add.new.self c.loop-i-test.true c.loop-i.invariant c.in_ok-put_gap.ensures c.in_ok-add.ensures.ok
