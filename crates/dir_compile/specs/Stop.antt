-- What a stop says.
use Rattle.std.specs.Prelude.{◌≡◌, Option, Some, None}
use Rattle.edi_tables.specs.Octets.{Octets}
use Rattle.dir_compile.specs.declared.stop.CompileKind.{CompileKind}
use Rattle.dir_compile.specs.declared.stop.CompileStop.{CompileStop}
use Rattle.dir_compile.specs.declared.stop.CompileStop.TheVariants.{Fault, Memory}

-- a fault of parts: the rule that they break, and the name that is reported with it
pub record PartsFault : Type 0 where
  pub kind : CompileKind
  pub name : Octets

-- the fault of this rule and this name
abbrev pub fault_with : CompileKind → Octets → PartsFault
fault_with kind name = record { kind = kind; name = name }

-- the fault that a stop reports; there is none where memory ran out
abbrev pub fault_in : CompileStop → Option PartsFault
fault_in (Fault kind name) = Some (fault_with kind name)
fault_in Memory = None

-- a stop reports this kind and name, unless memory ran out
abbrev pub IsStopAt : CompileKind → Octets → CompileStop → Type 0
IsStopAt kind name (Fault k n) = (k ≡ kind) × (n ≡ name)
IsStopAt kind name Memory = Unit {0}
