use Rattle.std.proofs.Common.{◌≤◌, decimal}
use Rattle.std.specs.Int.{IsInRange}
use Rattle.edit_script.specs.Reading.{Takes, supply_of}
use Rattle.edit_script.proofs.words.take_number.Given as goal

abbrev pub invariant-loop-octet : goal.invariant-loop-octet
invariant-loop-octet g l = record {
  within : IsInRange l.least l.most l.number;
  takes : Takes (supply_of g.I.Source l.fn.input l.fn.allowance.left) (supply_of g.I.Source l.input l.allowance.left) (decimal l.number);
  counted : g.I.Source.faults l.fn.input ≤ g.I.Source.faults l.input;
  steady : g.I.Source.is_steady l.fn.input → g.I.Source.is_steady l.input;
}

abbrev pub decreases-loop-octet : goal.decreases-loop-octet
decreases-loop-octet g l = l.allowance.left
