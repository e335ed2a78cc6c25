use Rattle.std.proofs.Common.{◌≡◌, ◌+◌, ◌-◌, ℕ, Some, drop, length}
use Rattle.std.specs.List.{slice_get}
use Rattle.seg_lexer.specs.Context.{context_of}
use Rattle.seg_lexer.specs.Segments.{boundaries_of}
use Rattle.seg_lexer.specs.Service.{IsUsable}
use Rattle.segment_records.specs.Segments.{segments_of_text}
use Rattle.contrl_match.proofs.Walking.{uci_from}
use Rattle.contrl_match.proofs.judge.find_uci.Given as goal

abbrev pub invariant-loop-start : goal.invariant-loop-start
invariant-loop-start g l = record {
  service : l.service ≡ (context_of l.text.octets.now).service;
  usable : IsUsable l.service l.text.octets.now;
  place : (k : ℕ) × ((slice_get (boundaries_of l.service l.text.octets.now) k ≡ Some l.from) × (uci_from (segments_of_text l.text.octets.now) ≡ uci_from (drop k (segments_of_text l.text.octets.now))));
}

abbrev pub decreases-loop-start : goal.decreases-loop-start
decreases-loop-start g l = length l.text.octets.now + 1 - l.from
