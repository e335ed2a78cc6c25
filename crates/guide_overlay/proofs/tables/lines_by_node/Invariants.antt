use Rattle.std.proofs.Common.{◌≡◌, ℕ, ◌<◌, None, get_or, length, map, take}
use Rattle.std.specs.Prelude.{find}
use Rattle.std.specs.Option.{option_map}
use Rattle.guide_overlay.specs.Fitting.{is_node}
use Rattle.guide_overlay.specs.Kept.{detail_seen}
use Rattle.guide_overlay.proofs.tables.lines_by_node.Given as goal

abbrev pub invariant-loop-detail : goal.invariant-loop-detail
invariant-loop-detail l = record {
  long : length l.lines.items ≡ l.count;
  lines : (i : ℕ) → i < l.count
      → option_map detail_seen (get_or l.lines.items i None) ≡ find (is_node i) (map detail_seen (take l.detail-index l.details));
}
