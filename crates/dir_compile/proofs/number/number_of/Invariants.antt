use Rattle.std.proofs.Common.{◌≡◌, drop}
use Rattle.dir_compile.specs.Number.{number}
use Rattle.dir_compile.proofs.number.number_of.Given as goal

-- the number is that of the octets from this place on
abbrev pub invariant-loop-place : goal.invariant-loop-place
invariant-loop-place l = l.number ≡ number (drop l.place l.octets)
