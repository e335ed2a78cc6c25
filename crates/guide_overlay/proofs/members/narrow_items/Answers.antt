use Rattle.guide_overlay.proofs.MadeByLines.{item_fits, items_next}
use Rattle.guide_overlay.proofs.members.narrow_items.Goals as goal

pub item_by_line-requires : goal.item_by_line-requires
item_by_line-requires c =
    item_fits c.args.details.now c.loop-i.i c.item_line.result c.args.items.now _ c.requires c.loop-i-test.true c.item_line.ensures

pub loop-i-preserved : goal.loop-i-preserved
loop-i-preserved c =
    items_next c.args.details.now c.loop-i.i c.item_line.result c.args.items.now _ c.item_by_line.result c.loop-i.made.items c.push.new.self.items
    c.loop-i-test.true c.item_line.ensures c.item_by_line.ensures c.loop-i.invariant c.in_ok-push.ensures.items
