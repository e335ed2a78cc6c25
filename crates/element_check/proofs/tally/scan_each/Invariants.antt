use Rattle.std.proofs.Common.{◌≡◌, ◌+◌, ◌<◌, ◌^◌, length}
use Rattle.seg_lexer.specs.Value.{octets_of}
use Rattle.element_check.specs.Tally.{nothing_found, tally_over}
use Rattle.element_check.proofs.tally.scan_each.Given as goal

-- what was found so far, and then in what is left, is what is found in all
abbrev pub invariant-loop-octet : goal.invariant-loop-octet
invariant-loop-octet g l = record {
  same : tally_over l.context l.class nothing_found (octets_of l.value) ≡ tally_over l.context l.class l.found l.octet-iterator;
  fits : l.found.counted + length l.octet-iterator < 2 ^ 64;
}
