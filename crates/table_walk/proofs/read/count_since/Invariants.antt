use Rattle.std.proofs.Common.{◌≡◌, ◌≤◌, take}
use Rattle.std.specs.Prelude.{count_by}
use Rattle.edi_tables.specs.Placement.{is_at, placed_since}
use Rattle.table_walk.proofs.read.count_since.Given as goal

abbrev pub invariant-loop-member : goal.invariant-loop-member
invariant-loop-member l =
    (l.count ≤ l.member-index) × (l.count ≡ count_by (is_at l.entry) (placed_since l.group (take l.member-index l.placed)))
