use Rattle.std.proofs.Common.{◌≡◌, ◌≤◌, true, length}
use Rattle.std.specs.List.{list_all}
use Rattle.edi_tables.specs.Tag.{is_tag_octet_of}
use Rattle.edit_script.specs.Reading.{Takes, supply_of}
use Rattle.edit_script.proofs.words.take_reference.Given as goal

abbrev pub invariant-loop-reference : goal.invariant-loop-reference
invariant-loop-reference g l = record {
  few : length l.reference ≤ 14;
  lawful : list_all is_tag_octet_of l.reference ≡ true;
  takes : Takes (supply_of g.I.Source l.fn.input l.fn.allowance.left) (supply_of g.I.Source l.input l.allowance.left) l.reference;
  counted : g.I.Source.faults l.fn.input ≤ g.I.Source.faults l.input;
  steady : g.I.Source.is_steady l.fn.input → g.I.Source.is_steady l.input;
}

abbrev pub decreases-loop-reference : goal.decreases-loop-reference
decreases-loop-reference g l = l.allowance.left
