use Rattle.std.proofs.Common.{◌≡◌, ◌+◌, ◌≤◌, ◌++◌, length}
use Rattle.std.specs.Prelude.{All}
use Rattle.error_ledger.specs.Printing.{ended_lines}
use Rattle.segment_records.specs.WalkedSegments.{Follows}
use Rattle.text_reading.proofs.Printed.{all_lines}
use Rattle.edi_engine.proofs.tree.print_tree.Given as goal

-- the lines of the segments to come are left to be put and counted; there are at most two for each of 4194304 segments
abbrev pub invariant-loop-seen : goal.invariant-loop-seen
invariant-loop-seen l = record {
  left : l.text ++ ended_lines (all_lines l.directory l.seen-iterator) ≡ ended_lines (all_lines l.directory l.initial.seen-iterator);
  counted : l.lines + length (all_lines l.directory l.seen-iterator) ≡ length (all_lines l.directory l.initial.seen-iterator);
  few : length (all_lines l.directory l.initial.seen-iterator) ≤ 8388608;
  follow : All (Follows l.directory) l.seen-iterator;
}
