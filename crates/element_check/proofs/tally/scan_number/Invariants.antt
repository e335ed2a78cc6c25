use Rattle.std.proofs.Common.{◌≡◌, ◌≤◌, drop}
use Rattle.edi_tables.specs.declared.element.Class.TheVariants.{N}
use Rattle.element_check.specs.Tally.{nothing_found, typed_by}
use Rattle.element_check.proofs.tally.scan_number.Given as goal

-- what was found so far, and then in what is left, is what is found in all
abbrev pub invariant-loop-octet : goal.invariant-loop-octet
invariant-loop-octet l = record {
  same : typed_by l.service N nothing_found l.octets ≡ typed_by l.service N l.found (drop l.octet-index l.octets);
  fits : l.found.counted ≤ l.octet-index;
}
