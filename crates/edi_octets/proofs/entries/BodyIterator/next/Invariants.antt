use Rattle.std.proofs.Common.{◌≡◌}
use Rattle.edi_octets.specs.Profile.{body_within}
use Rattle.edi_octets.specs.Left.{lines_left, body_left}
use Rattle.edi_octets.proofs.entries.BodyIterator.next.Given as goal

abbrev pub invariant-loop-line : goal.invariant-loop-line
invariant-loop-line l =
    (body_left l.self ≡ body_left l.fn.self) × (body_within (lines_left l.ahead) ≡ body_left l.fn.self)
