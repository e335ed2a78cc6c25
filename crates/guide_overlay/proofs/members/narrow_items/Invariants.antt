use Rattle.std.proofs.Common.{◌≡◌, map, take}
use Rattle.std.specs.List.{enumerate_from}
use Rattle.guide_overlay.specs.Guide.{narrowed_item}
use Rattle.guide_overlay.specs.Kept.{detail_seen}
use Rattle.guide_overlay.proofs.members.narrow_items.Given as goal

abbrev pub invariant-loop-i : goal.invariant-loop-i
invariant-loop-i l =
    l.made.items ≡ map (narrowed_item (map detail_seen l.details)) (enumerate_from 1 (take l.i l.items))
