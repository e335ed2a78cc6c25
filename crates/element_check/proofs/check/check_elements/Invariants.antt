use Rattle.std.proofs.Common.{◌≡◌, ◌+◌, ◌++◌, ◌<◌, ◌^◌, drop, length}
use Rattle.seg_lexer.specs.Left.{components_left}
use Rattle.element_check.specs.Streams.{AreOrdered, components_ahead, repeated_errors}
use Rattle.element_check.proofs.check.check_elements.Given as goal

-- what is left to be reported comes after what was reported
abbrev pub invariant-loop-item : goal.invariant-loop-item
invariant-loop-item g l = record {
  same : l.errors ++ repeated_errors l.rules l.element (drop l.item-index l.rules.items) (components_ahead l.rest)
      ≡ l.initial.errors ++ repeated_errors l.rules 0 l.rules.items (components_left l.fn.elements);
  number : l.element ≡ l.item-index;
  few : length (components_ahead l.rest) < 2 ^ 31;
  ordered : AreOrdered (l.element + 1) 0 (components_ahead l.rest);
}
