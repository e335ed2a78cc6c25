use Rattle.std.proofs.Common.{◌≡◌, map, take}
use Rattle.guide_overlay.specs.Guide.{values_in}
use Rattle.guide_overlay.specs.Kept.{detail_seen}
use Rattle.guide_overlay.proofs.lists.kept_values.Given as goal

abbrev pub invariant-loop-detail : goal.invariant-loop-detail
invariant-loop-detail l = l.values.items ≡ values_in (map detail_seen (take l.detail-index l.details))
