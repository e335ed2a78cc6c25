use Rattle.std.proofs.Common.{◌≡◌, ◌++◌, take}
use Rattle.std.specs.List.{flat_map}
use Rattle.edi_octets.specs.Shown.{octet_shown}
use Rattle.contrl_match.proofs.print.put_octets.Given as goal

-- those so far are put
abbrev pub invariant-loop-octet : goal.invariant-loop-octet
invariant-loop-octet l = l.text ≡ l.fn.text ++ flat_map octet_shown (take l.octet-index l.octets)
