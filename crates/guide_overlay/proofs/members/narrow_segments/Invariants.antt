use Rattle.std.proofs.Common.{◌≡◌, map, take}
use Rattle.guide_overlay.specs.Guide.{narrowed_segment}
use Rattle.guide_overlay.specs.Kept.{sections_seen}
use Rattle.guide_overlay.proofs.members.narrow_segments.Given as goal

abbrev pub invariant-loop-segment : goal.invariant-loop-segment
invariant-loop-segment l =
    l.made.items ≡ map (narrowed_segment (sections_seen l.reading)) (take l.segment-index l.segments)
