use Rattle.std.proofs.Common.{◌≡◌, ◌≤◌, length}
use Rattle.element_check.specs.Local.{last_repetition}
use Rattle.element_check.specs.Repeated.{some_in}
use Rattle.element_check.specs.Streams.{AreOrdered, components_ahead, has_needed}
use Rattle.element_check.proofs.repeated.is_lacking.Given as goal

-- no repetition so far has a value that the item may need
abbrev pub invariant-loop-values : goal.invariant-loop-values
invariant-loop-values g l = record {
  same : some_in (has_needed l.item) (components_ahead l.rest) l.element 1 (last_repetition (components_ahead l.rest) l.element)
      ≡ some_in (has_needed l.item) (components_ahead l.values) l.element 1 (last_repetition (components_ahead l.rest) l.element);
  ordered : AreOrdered l.element 1 (components_ahead l.values);
  within : last_repetition (components_ahead l.values) l.element ≤ last_repetition (components_ahead l.rest) l.element;
}

abbrev pub decreases-loop-values : goal.decreases-loop-values
decreases-loop-values g l = length (components_ahead l.values)
