use Rattle.std.proofs.Common.{◌≡◌, ◌++◌, length, take}
use Rattle.std.specs.Prelude.{codes}
use Rattle.std.specs.List.{flat_map}
use Rattle.error_ledger.specs.Printing.{error_line}
use Rattle.edi_octets.specs.Decimal.{count_line}
use Rattle.error_ledger.proofs.error_text.print_errors.Given as goal

abbrev pub invariant-loop-error : goal.invariant-loop-error
invariant-loop-error l = l.out ≡ count_line (codes "errors") (length l.list) ++ flat_map error_line (take l.error-index l.list)
