use Rattle.std.proofs.Common.{◌≡◌, map, take}
use Rattle.guide_overlay.specs.Guide.{narrowed_message}
use Rattle.guide_overlay.specs.Kept.{sections_seen}
use Rattle.guide_overlay.proofs.tables.narrow_messages.Given as goal

abbrev pub invariant-loop-i : goal.invariant-loop-i
invariant-loop-i l =
    l.made.items ≡ map (narrowed_message (sections_seen l.reading)) (take l.i l.messages)
