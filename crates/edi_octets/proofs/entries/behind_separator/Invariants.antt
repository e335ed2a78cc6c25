use Rattle.std.proofs.Common.{◌≡◌}
use Rattle.std.specs.List.{after_first}
use Rattle.edi_octets.specs.Profile.{is_separator}
use Rattle.edi_octets.specs.Left.{lines_left}
use Rattle.edi_octets.proofs.entries.behind_separator.Given as goal

abbrev pub invariant-loop-line : goal.invariant-loop-line
invariant-loop-line l =
    after_first is_separator (lines_left l.behind) ≡ after_first is_separator (lines_left l.fn.lines)
