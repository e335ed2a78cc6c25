use Rattle.guide_overlay.proofs.MadeByLines.{parts_next}
use Rattle.guide_overlay.proofs.members.narrow_parts.Goals as goal

pub loop-i-preserved : goal.loop-i-preserved
loop-i-preserved c =
    parts_next c.args.details.now c.loop-i.i c.part_line.result c.args.parts.now _ c.part_by_line.result c.loop-i.made.items c.push.new.self.items
    c.loop-i-test.true c.part_line.ensures c.part_by_line.ensures c.loop-i.invariant c.in_ok-push.ensures.items
