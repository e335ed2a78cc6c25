use Rattle.std.proofs.Common.{◌≡◌, ◌≤◌, length, take, Ok}
use Rattle.edit_script.specs.Reading.{Reads, supply_of}
use Rattle.edit_script.specs.Rest.{IsEditsText}
use Rattle.edit_script.proofs.batch.take_edits.Given as goal

abbrev pub invariant-loop-place : goal.invariant-loop-place
invariant-loop-place g l = record {
  long : length l.edits.items ≡ l.count;
  reads : Reads (IsEditsText l.place) (supply_of g.I.Source l.fn.input l.fn.allowance.left) (supply_of g.I.Source l.input l.allowance.left) (Ok (take l.place l.edits.items));
  counted : g.I.Source.faults l.fn.input ≤ g.I.Source.faults l.input;
  steady : g.I.Source.is_steady l.fn.input → g.I.Source.is_steady l.input;
}
