use Rattle.std.proofs.Common.{◌≡◌, ◌++◌, length, take}
use Rattle.std.specs.Prelude.{codes}
use Rattle.std.specs.List.{flat_map}
use Rattle.error_ledger.specs.Printing.{tree_lines, ended_lines}
use Rattle.edi_octets.specs.Decimal.{count_line}
use Rattle.error_ledger.proofs.tree_text.print_tree.Given as goal

abbrev pub invariant-loop-line : goal.invariant-loop-line
invariant-loop-line l =
    l.out ≡ count_line (codes "tree") (length (flat_map tree_lines l.list)) ++ ended_lines (flat_map tree_lines (take l.line-index l.list))
