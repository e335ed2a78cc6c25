use Rattle.std.proofs.Common.{◌≡◌, ◌≤◌, drop}
use Rattle.element_check.specs.Tally.{nothing_found, tally_by}
use Rattle.element_check.proofs.tally.scan_as.Given as goal

-- what was found so far, and then in what is left, is what is found in all
abbrev pub invariant-loop-octet : goal.invariant-loop-octet
invariant-loop-octet l = record {
  same : tally_by l.level l.service l.class nothing_found l.octets ≡ tally_by l.level l.service l.class l.found (drop l.octet-index l.octets);
  fits : l.found.counted ≤ l.octet-index;
}
