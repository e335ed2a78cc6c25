use Rattle.guide_overlay.specs.Guide.{narrowed_composite}
use Rattle.guide_overlay.specs.Kept.{sections_seen}
use Rattle.guide_overlay.proofs.Numbered.{mapped_more}
use Rattle.guide_overlay.proofs.members.narrow_composites.Goals as goal

pub loop-composite-preserved : goal.loop-composite-preserved
loop-composite-preserved c =
    mapped_more (narrowed_composite (sections_seen c.args.reading.now)) c.items-composites.result.now c.loop-composite.composite-index c.composite-item.result
    c.in_ok-narrow_composite.field-0 c.loop-composite.made.items c.push.new.self.items
    c.loop-composite-test.true c.composite-item.is c.in_ok-narrow_composite.ensures c.loop-composite.invariant c.in_ok-push.ensures.items
