use Rattle.std.proofs.Common.{◌≡◌, length}
use Rattle.std.specs.List.{list_any}
use Rattle.element_check.specs.Local.{has_octet}
use Rattle.element_check.specs.Streams.{values_left}
use Rattle.element_check.proofs.element.is_filled_behind.Given as goal

-- the values so far are empty
abbrev pub invariant-loop-value : goal.invariant-loop-value
invariant-loop-value g l = list_any has_octet (values_left l.element l.fn.values) ≡ list_any has_octet (values_left l.element l.values)

abbrev pub decreases-loop-value : goal.decreases-loop-value
decreases-loop-value g l = length (values_left l.element l.values)
