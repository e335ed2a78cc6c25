use Rattle.std.proofs.Common.{◌≡◌, ◌+◌, ◌-◌, ◌++◌, ◌≤◌, Some, drop, length}
use Rattle.std.specs.List.{slice_get}
use Rattle.seg_lexer.specs.Context.{context_of}
use Rattle.seg_lexer.specs.Service.{IsUsable}
use Rattle.seg_lexer.specs.Segments.{boundaries_of, segments_of}
use Rattle.listing_printer.specs.Printing.{segments_from}
use Rattle.listing_printer.proofs.text.list_segments.Given as goal

abbrev pub invariant-loop-start : goal.invariant-loop-start
invariant-loop-start g l = record {
  service : l.service ≡ (context_of l.text.octets.now).service;
  usable : IsUsable l.service l.text.octets.now;
  boundary : slice_get (boundaries_of l.service l.text.octets.now) l.count ≡ Some l.from;
  few : l.count ≤ l.from;
  lines : l.lines ++ segments_from l.detail l.service l.text.octets.now (l.count + 1) (drop l.count (segments_of l.service l.text.octets.now)) ≡ segments_from l.detail l.service l.text.octets.now 1 (segments_of l.service l.text.octets.now);
}

abbrev pub decreases-loop-start : goal.decreases-loop-start
decreases-loop-start g l = length l.text.octets.now + 1 - l.from
