use Rattle.std.proofs.Common.{◌≡◌, ◌+◌, ◌++◌, ◌<◌, ◌^◌, drop, length}
use Rattle.element_check.specs.Streams.{after_left, part_rules, parts_errors, values_left}
use Rattle.element_check.proofs.element.check_parts.Given as goal

-- what is left to be reported comes after what was reported
abbrev pub invariant-loop-part : goal.invariant-loop-part
invariant-loop-part g l = record {
  same : l.errors ++ parts_errors (part_rules l.rules l.named) l.element l.component (drop l.part-index l.parts) (values_left l.element l.values)
      ≡ l.initial.errors ++ parts_errors (part_rules l.rules l.named) l.element 1 l.parts (values_left l.element l.initial.values);
  number : l.component ≡ l.part-index + 1;
  after : after_left l.element l.values ≡ after_left l.element l.initial.values;
  fits : length (values_left l.element l.values) < 2 ^ 31;
}
