use Rattle.std.proofs.Common.{◌≡◌, ◌++◌}
use Rattle.seg_lexer.specs.Left.{components_left}
use Rattle.listing_printer.specs.Printing.{value_lines}
use Rattle.listing_printer.proofs.value_lines.put_values.Given as goal

-- what was put so far, and the lines of the components that are left
abbrev pub invariant-loop-component : goal.invariant-loop-component
invariant-loop-component g l =
    l.lines ++ value_lines (components_left l.component-iterator) ≡ l.fn.lines ++ value_lines (components_left l.fn.components)
