use Rattle.std.proofs.Common.{◌≡◌, ℕ, ◌<◌, []}
use Rattle.edi_tables.proofs.Faults.{faults_of_place}
use Rattle.edi_tables.proofs.build.first_fault.Given as goal

abbrev pub invariant-loop-i : goal.invariant-loop-i
invariant-loop-i l = (k : ℕ) → k < l.i → faults_of_place l.rows k ≡ []
