use Rattle.std.proofs.Common.{◌≡◌, ◌+◌, Bool, drop}
use Rattle.element_check.specs.Streams.{after_front, front_values, part_rules, parts_errors}
use Rattle.clean_segments.specs.Looked.{AreOfOne, looked_left}
use Rattle.clean_segments.proofs.look.are_parts_clean.Given as goal

-- the errors of the parts that are left are those of all but the first
abbrev pub invariant-loop-part : goal.invariant-loop-part
invariant-loop-part l = record {
  same : (named : Bool) → parts_errors (part_rules l.rules named) l.element (l.part-index + 2) (drop l.part-index l.later) (front_values l.element (looked_left l.fields))
      ≡ parts_errors (part_rules l.rules named) l.element 2 l.later (front_values l.element (looked_left l.initial.fields));
  after : after_front l.element (looked_left l.fields) ≡ after_front l.element (looked_left l.initial.fields);
  one : AreOfOne l.initial.fields l.fields;
}
