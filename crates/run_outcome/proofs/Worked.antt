-- Worked cases, which the checker computes.
use Rattle.std.proofs.Common.{◌≡◌, refl, [], ◌∷◌, ◌++◌}
use Rattle.std.specs.Prelude.{codes}
use Rattle.std.specs.Fmt.{digits}
use Rattle.edi_octets.specs.declared.fault.DirKind.TheVariants.{CloseWithoutOpen}
use Rattle.dir_load.specs.declared.stop.FileFault.TheVariants.{Grammar}
use Rattle.dir_load.specs.declared.stop.Refusal.TheVariants.{File, Store}
use Rattle.run_outcome.specs.declared.status.Status.TheVariants.{BadDirectory}
use Rattle.run_outcome.specs.Refusal.{refusal}

-- a file that breaks a rule of its grammar
grammar_shown : refusal (File (codes "tstord") (Grammar (record { line = 15; kind = CloseWithoutOpen }))) ≡ record { status = BadDirectory; output = codes "fault directory tstord 15 close-without-open" ++ 10 ∷ [] }
unfolding digits
grammar_shown = refl

-- a store that breaks a rule
store_shown : refusal (Store (codes "s") 37) ≡ record { status = BadDirectory; output = codes "fault store s 37" ++ 10 ∷ [] }
unfolding digits
store_shown = refl
