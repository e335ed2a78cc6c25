use Rattle.std.proofs.Common.{◌≡◌, get_or, length, subst}
use Rattle.seg_lexer.specs.Segments.{boundaries_of, ends_of}
use Rattle.seg_lexer.specs.Service.{service_of}
use Rattle.segment_records.specs.Count.{segment_count_of}
use Rattle.kept_text.proofs.Batches.{last_here}
use Rattle.kept_text.specs.Passing.{Passing}
use Rattle.kept_text.proofs.passing.PassingSegments.last_boundary.Goals as goal

pub returns : goal.returns
returns c =
    subst (λ (p : Passing). p.passed ≡ segment_count_of p.text
    → c.self.inside.from ≡ get_or (boundaries_of (service_of p.text) p.text) (length (ends_of (service_of p.text) p.text)) 0) c.self.view_is
    (last_here c.self.inside c.self.invariant) c.requires
