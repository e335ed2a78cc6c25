use Rattle.std.proofs.Common.{◌≡◌, ◌≤◌, true, length, take}
use Rattle.std.specs.Char.{is_ascii_digit}
use Rattle.std.specs.List.{list_all}
use Rattle.edit_script.specs.Reading.{Takes, supply_of}
use Rattle.edit_script.proofs.words.take_digits.Given as goal

abbrev pub invariant-loop-digit : goal.invariant-loop-digit
invariant-loop-digit g l = record {
  long : length l.digit-items ≡ g.row.N;
  digits : list_all is_ascii_digit (take l.digit-index l.digit-items) ≡ true;
  takes : Takes (supply_of g.I.Source l.fn.input l.fn.allowance.left) (supply_of g.I.Source l.input l.allowance.left) (take l.digit-index l.digit-items);
  counted : g.I.Source.faults l.fn.input ≤ g.I.Source.faults l.input;
  steady : g.I.Source.is_steady l.fn.input → g.I.Source.is_steady l.input;
}
