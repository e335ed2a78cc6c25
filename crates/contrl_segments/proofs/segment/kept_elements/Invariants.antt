use Rattle.std.proofs.Common.{◌≡◌, ◌≤◌, take}
use Rattle.contrl_segments.specs.Written.{is_empty_element, trimmed}
use Rattle.contrl_segments.specs.Lent.{element_lent}
use Rattle.contrl_segments.proofs.segment.kept_elements.Given as goal

abbrev pub invariant-loop-i : goal.invariant-loop-i
invariant-loop-i l = record {
  within : l.kept ≤ l.i;
  trims : trimmed (λ e. is_empty_element (element_lent e)) (take l.i l.elements) ≡ take l.kept l.elements;
}
