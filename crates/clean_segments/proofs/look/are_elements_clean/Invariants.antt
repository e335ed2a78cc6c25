use Rattle.std.proofs.Common.{◌≡◌, drop}
use Rattle.element_check.specs.Streams.{items_errors}
use Rattle.clean_segments.specs.Looked.{AreOfOne, looked_left}
use Rattle.clean_segments.proofs.look.are_elements_clean.Given as goal

-- the errors of the elements that are left are those of all
abbrev pub invariant-loop-item : goal.invariant-loop-item
invariant-loop-item l = record {
  same : items_errors l.rules l.element (drop l.item-index l.rules.items) (looked_left l.rest) ≡ items_errors l.rules 0 l.rules.items (looked_left l.fn.fields);
  number : l.element ≡ l.item-index;
  one : AreOfOne l.fn.fields l.rest;
}
