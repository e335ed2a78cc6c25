use Rattle.std.proofs.Common.{◌≡◌, ◌≤◌, ◌<◌, length, take}
use Rattle.edit_script.specs.Beginnings.{IsPartOf}
use Rattle.edit_script.specs.Reading.{Takes, supply_of, IsSomeText}
use Rattle.edit_script.specs.Texts.{IsNameText}
use Rattle.edit_script.proofs.name.take_listed.Given as goal

abbrev pub invariant-loop-line : goal.invariant-loop-line
invariant-loop-line g l = record {
  long : length l.line ≡ 8;
  inside : l.length < 8;
  part : IsPartOf (IsSomeText (IsNameText l.names)) (take l.length l.line);
  takes : Takes (supply_of g.I.Source l.fn.input l.fn.allowance.left) (supply_of g.I.Source l.input l.allowance.left) (take l.length l.line);
  counted : g.I.Source.faults l.fn.input ≤ g.I.Source.faults l.input;
  steady : g.I.Source.is_steady l.fn.input → g.I.Source.is_steady l.input;
}

abbrev pub decreases-loop-line : goal.decreases-loop-line
decreases-loop-line g l = l.allowance.left
