use Rattle.std.proofs.Common.{◌≡◌, map, take}
use Rattle.guide_overlay.specs.Guide.{narrowed_composite}
use Rattle.guide_overlay.specs.Kept.{sections_seen}
use Rattle.guide_overlay.proofs.members.narrow_composites.Given as goal

abbrev pub invariant-loop-composite : goal.invariant-loop-composite
invariant-loop-composite l =
    l.made.items ≡ map (narrowed_composite (sections_seen l.reading)) (take l.composite-index l.composites)
