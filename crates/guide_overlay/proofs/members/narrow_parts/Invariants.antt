use Rattle.std.proofs.Common.{◌≡◌, map, take}
use Rattle.std.specs.List.{enumerate_from}
use Rattle.guide_overlay.specs.Guide.{narrowed_part}
use Rattle.guide_overlay.specs.Kept.{detail_seen}
use Rattle.guide_overlay.proofs.members.narrow_parts.Given as goal

abbrev pub invariant-loop-i : goal.invariant-loop-i
invariant-loop-i l =
    l.made.items ≡ map (narrowed_part (map detail_seen l.details)) (enumerate_from 1 (take l.i l.parts))
