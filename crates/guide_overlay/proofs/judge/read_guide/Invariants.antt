use Rattle.std.proofs.Common.{◌≡◌, [], map}
use Rattle.edi_octets.specs.Left.{line_shown}
use Rattle.guide_overlay.specs.Guide.{guide_faults, sections_in}
use Rattle.guide_overlay.specs.Kept.{IsGuideReading, sections_seen}
use Rattle.guide_overlay.proofs.judge.read_guide.Given as goal

abbrev pub invariant-loop-line : goal.invariant-loop-line
invariant-loop-line l = record {
  kept : IsGuideReading l.reading;
  sections : sections_seen l.reading ≡ sections_in (map line_shown l.yielded);
  none : guide_faults l.parts (map line_shown l.yielded) ≡ [];
}
