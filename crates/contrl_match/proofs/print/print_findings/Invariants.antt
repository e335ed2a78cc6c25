use Rattle.std.proofs.Common.{◌≡◌, ◌++◌, length, take}
use Rattle.std.specs.Prelude.{codes}
use Rattle.std.specs.List.{flat_map}
use Rattle.edi_octets.specs.Decimal.{count_line}
use Rattle.contrl_match.specs.Printing.{finding_line}
use Rattle.contrl_match.proofs.print.print_findings.Given as goal

-- the lines so far are put
abbrev pub invariant-loop-finding : goal.invariant-loop-finding
invariant-loop-finding l = l.text ≡ count_line (codes "findings") (length l.list) ++ flat_map finding_line (take l.finding-index l.list)
