use Rattle.std.proofs.Common.{◌≡◌, ◌+◌, ◌++◌, ◌<◌, ◌^◌, length}
use Rattle.element_check.specs.Streams.{after_left, surplus_components, values_left}
use Rattle.element_check.proofs.element.check_surplus.Given as goal

-- what is left to be reported comes after what was reported
abbrev pub invariant-loop-value : goal.invariant-loop-value
invariant-loop-value g l = record {
  same : l.errors ++ surplus_components l.element l.component (values_left l.element l.values) ≡ l.initial.errors ++ surplus_components l.element l.fn.first (values_left l.element l.initial.values);
  fits : l.component + length (values_left l.element l.values) < 2 ^ 32;
  after : after_left l.element l.values ≡ after_left l.element l.initial.values;
}

abbrev pub decreases-loop-value : goal.decreases-loop-value
decreases-loop-value g l = length (values_left l.element l.values)
