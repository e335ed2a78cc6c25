use Rattle.std.proofs.Common.{◌≡◌, ◌++◌, map}
use Rattle.std.specs.Prelude.{All}
use Rattle.segment_records.specs.WalkedSegments.{Follows}
use Rattle.segment_records.specs.Told.{line_in_tree}
use Rattle.edi_engine.proofs.tree.list_tree.Given as goal

-- the members for the segments to come are left to be made
abbrev pub invariant-loop-seen : goal.invariant-loop-seen
invariant-loop-seen l = record {
  left : l.tree.items ++ map (line_in_tree l.directory) l.seen-iterator
      ≡ map (line_in_tree l.directory) l.initial.seen-iterator;
  follow : All (Follows l.directory) l.seen-iterator;
}
