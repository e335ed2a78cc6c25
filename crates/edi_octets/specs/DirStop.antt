-- What a reader of a directory file answers.
use Rattle.std.specs.Prelude.{Option, Some, None}
use Rattle.edi_octets.specs.declared.fault.DirKind.{DirKind}
use Rattle.edi_octets.specs.declared.fault.DirFault.{DirFault}
use Rattle.edi_octets.specs.declared.fault.DirStop.{DirStop}
use Rattle.edi_octets.specs.declared.fault.DirStop.TheVariants.{Fault, Memory}
use Rattle.edi_octets.specs.Lines.{Line}

-- a fault of this kind at a line
abbrev pub at_line : DirKind → Line → DirFault
at_line kind line = record { line = line.number; kind = kind }

-- the fault that a stop tells; want of memory tells none
abbrev pub fault_in : DirStop → Option DirFault
fault_in (Fault fault) = Some fault
fault_in Memory = None
