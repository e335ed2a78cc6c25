use Rattle.std.proofs.Common.{◌≡◌, ◌<◌, List, get_or, length, subst}
use Rattle.edi_tables.specs.declared.segment.SegmentDef.{SegmentDef}
use Rattle.guide_overlay.specs.Guide.{narrowed_segment}
use Rattle.guide_overlay.specs.Kept.{sections_seen}
use Rattle.guide_overlay.proofs.FittingLemmas.{items_fit}
use Rattle.guide_overlay.proofs.Numbered.{mapped_more}
use Rattle.guide_overlay.proofs.members.narrow_segments.Goals as goal

pub narrow_segment-requires-clause-fitting : goal.narrow_segment-requires-clause-fitting
narrow_segment-requires-clause-fitting c =
    let i = c.loop-segment.segment-index in
    let segment = c.segment-item.result in
    items_fit c.args.parts.now (sections_seen c.args.reading.now) c.requires.narrowing c.requires.directory i segment
    (subst (λ (all : List SegmentDef). i < length all) c.items-segments.ensures c.loop-segment-test.true)
    (subst (λ (all : List SegmentDef). segment ≡ get_or all i segment) c.items-segments.ensures c.segment-item.is)

pub loop-segment-preserved : goal.loop-segment-preserved
loop-segment-preserved c =
    mapped_more (narrowed_segment (sections_seen c.args.reading.now)) c.items-segments.result.now c.loop-segment.segment-index c.segment-item.result
    c.in_ok-narrow_segment.field-0 c.loop-segment.made.items c.push.new.self.items
    c.loop-segment-test.true c.segment-item.is c.in_ok-narrow_segment.ensures c.loop-segment.invariant c.in_ok-push.ensures.items
