-- How many octets are kept.
use Rattle.std.proofs.Common.{◌≡◌, ◌-◌, length, arith}
use Rattle.std.proofs.lemmas.Grind.{common_steps}
use Rattle.edicheck.specs.declared.kept.Kept.{Kept}
use Rattle.edicheck.specs.Kept.{IsKept, kept_octets}

pub length-kept : (kept : Kept) → IsKept kept → length kept.octets ≡ 8192 → length (kept_octets kept) ≡ kept.to - kept.from
length-kept kept is room = grind (arith, common_steps)
