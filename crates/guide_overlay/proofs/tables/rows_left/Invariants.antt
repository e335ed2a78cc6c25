use Rattle.std.proofs.Common.{◌≡◌, ℕ, map, nat_lt}
use Rattle.std.specs.List.{list_any}
use Rattle.edi_tables.specs.Rows.{nodes_of}
use Rattle.guide_overlay.specs.Guide.{changes_in}
use Rattle.guide_overlay.specs.Kept.{detail_seen}
use Rattle.guide_overlay.proofs.RowsLeft.{is_dropped_before, left_of}
use Rattle.guide_overlay.proofs.tables.rows_left.Given as goal

abbrev pub invariant-loop-i : goal.invariant-loop-i
invariant-loop-i l = record {
  left : l.left.items ≡ left_of l.rows (map detail_seen l.details) l.i;
  until : (j : ℕ) → nat_lt j l.until ≡ list_any (is_dropped_before (nodes_of l.rows) l.i j) (changes_in (map detail_seen l.details));
}
