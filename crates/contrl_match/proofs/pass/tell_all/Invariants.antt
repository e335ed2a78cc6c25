use Rattle.std.proofs.Common.{◌≡◌, ◌+◌, ◌-◌, ◌≤◌, Some, drop, length}
use Rattle.std.specs.List.{slice_get}
use Rattle.seg_lexer.specs.Context.{context_of}
use Rattle.seg_lexer.specs.Segments.{boundaries_of}
use Rattle.seg_lexer.specs.Service.{IsUsable}
use Rattle.segment_records.specs.Segments.{segments_of_text}
use Rattle.contrl_match.specs.Walked.{spot_seen}
use Rattle.contrl_match.proofs.Steps.{IsPassing}
use Rattle.contrl_match.proofs.pass.tell_all.Given as goal

abbrev pub invariant-loop-start : goal.invariant-loop-start
invariant-loop-start g l = record {
  service : l.service ≡ (context_of l.text.octets.now).service;
  usable : IsUsable l.service l.text.octets.now;
  boundary : slice_get (boundaries_of l.service l.text.octets.now) l.number ≡ Some l.from;
  few : l.number ≤ l.from;
  passing : IsPassing l.index.summary.now (segments_of_text l.text.octets.now) (drop l.number (segments_of_text l.text.octets.now)) l.number (spot_seen l.spot) l.found.items;
}

abbrev pub decreases-loop-start : goal.decreases-loop-start
decreases-loop-start g l = length l.text.octets.now + 1 - l.from
