use Rattle.std.proofs.Common.{◌≡◌, take}
use Rattle.std.specs.List.{filter_map}
use Rattle.guide_overlay.specs.Guide.{list_left}
use Rattle.guide_overlay.specs.Kept.{sections_seen}
use Rattle.guide_overlay.proofs.lists.narrow_lists.Given as goal

abbrev pub invariant-loop-element : goal.invariant-loop-element
invariant-loop-element l =
    l.lists.items ≡ filter_map (list_left (sections_seen l.reading) l.parts) (take l.element-index l.element-items)
