use Rattle.dir_compile.specs.declared.parts.Parts.{Parts}
use Rattle.segment_records.specs.Known.{AreKnown}
use Rattle.segment_records.proofs.known.KnownSteps.none.Given as goal

-- no step is known yet
abbrev pub invariant-loop : goal.invariant-loop
invariant-loop l = (directory : Parts) → AreKnown directory l.places.items
