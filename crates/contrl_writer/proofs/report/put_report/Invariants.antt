use Rattle.std.proofs.Common.{◌≡◌, length, take}
use Rattle.std.specs.List.Sorted.{IsNonDecreasingBy}
use Rattle.contrl_writer.specs.Lower.{AreInMessage, joined, told, with_segments}
use Rattle.contrl_writer.specs.Raising.{segment_of}
use Rattle.contrl_writer.specs.Report.{message_blocks, report}
use Rattle.contrl_writer.proofs.report.put_report.Given as goal

abbrev pub decreases-loop-first : goal.decreases-loop-first
decreases-loop-first l = length l.rest

abbrev pub invariant-loop-first : goal.invariant-loop-first
invariant-loop-first l = record {
  order : IsNonDecreasingBy segment_of l.rest;
  own : AreInMessage l.message l.rest;
  put : with_segments l.out (joined (take l.left (message_blocks l.message (told l.rest)))) ≡ with_segments l.fn.out (report l.message (told l.fn.errors));
}
