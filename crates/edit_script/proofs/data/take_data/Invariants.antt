use Rattle.std.proofs.Common.{◌-◌, ◌≤◌, length}
use Rattle.edit_script.specs.Reading.{Takes, supply_of}
use Rattle.edit_script.proofs.data.take_data.Given as goal

abbrev pub invariant-loop-piece : goal.invariant-loop-piece
invariant-loop-piece g l = record {
  within : length l.put ≤ l.size;
  takes : Takes (supply_of g.I.Source l.fn.input l.fn.allowance.left) (supply_of g.I.Source l.input l.allowance.left) l.put;
  counted : g.I.Source.faults l.fn.input ≤ g.I.Source.faults l.input;
  steady : g.I.Source.is_steady l.fn.input → g.I.Source.is_steady l.input;
}

abbrev pub decreases-loop-piece : goal.decreases-loop-piece
decreases-loop-piece g l = l.size - length l.put
