use Rattle.std.proofs.Common.{◌≡◌, ◌++◌}
use Rattle.std.specs.List.{flat_map}
use Rattle.seg_lexer.specs.Value.{octets_of}
use Rattle.edi_octets.specs.Shown.{octet_shown}
use Rattle.listing_printer.proofs.value_lines.put_each_octet.Given as goal

-- the octets shown so far, and those that are left
abbrev pub invariant-loop-octet : goal.invariant-loop-octet
invariant-loop-octet g l = l.lines ++ flat_map octet_shown l.octet-iterator ≡ l.fn.lines ++ flat_map octet_shown (octets_of l.value)
