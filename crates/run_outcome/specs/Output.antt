-- For bodies: the octets of an output.
use Rattle.std.specs.Prelude.{◌++◌}
use Rattle.edi_tables.specs.Octets.{Octets}
use Rattle.run_outcome.specs.declared.outcome.Output.{Output}
use Rattle.run_outcome.specs.declared.outcome.Output.TheVariants.{Fixed, Lines, Headed}

-- all octets of an output, in the order in which they are put
abbrev pub octets_of : Output → Octets
octets_of (Fixed octets) = octets.now
octets_of (Lines lines) = lines
octets_of (Headed head lines) = head ++ lines
