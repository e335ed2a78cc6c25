-- What a stop says.
use Rattle.std.specs.Prelude.{◌≡◌, Option, Some, None}
use Rattle.edi_tables.specs.Octets.{Octets}
use Rattle.edi_octets.specs.declared.fault.DirStop.{DirStop}
use Rattle.edi_octets.specs.declared.fault.DirStop.TheVariants as dir
use Rattle.edi_ports.specs.declared.named.NamedStop.{NamedStop}
use Rattle.edi_ports.specs.declared.named.NamedStop.TheVariants as named
use Rattle.dir_compile.specs.declared.stop.CompileStop.{CompileStop}
use Rattle.dir_compile.specs.declared.stop.CompileStop.TheVariants as compile
use Rattle.dir_store.specs.declared.stop.StoreStop.{StoreStop}
use Rattle.dir_store.specs.declared.stop.StoreStop.TheVariants as store
use Rattle.dir_load.specs.declared.stop.FileFault.{FileFault}
use Rattle.dir_load.specs.declared.stop.FileFault.TheVariants.{Unread, Grammar}
use Rattle.dir_load.specs.declared.stop.FileStop.{FileStop}
use Rattle.dir_load.specs.declared.stop.FileStop.TheVariants as file
use Rattle.dir_load.specs.declared.stop.Refusal.{Refusal}
use Rattle.dir_load.specs.declared.stop.Refusal.TheVariants.{File, Parts, Store}
use Rattle.dir_load.specs.declared.stop.LoadStop.{LoadStop}
use Rattle.dir_load.specs.declared.stop.LoadStop.TheVariants.{Refused, Fault, Memory}

-- the refusal that a stop reports; there is none where the shelf failed or memory ran out
abbrev pub refusal_in : LoadStop → Option Refusal
refusal_in (Refused refusal) = Some refusal
refusal_in Fault = None
refusal_in Memory = None

-- the fault that a stop at one file reports; there is none where the shelf failed or memory ran out
abbrev pub file_fault_in : FileStop → Option FileFault
file_fault_in (file.Refused fault) = Some fault
file_fault_in file.Fault = None
file_fault_in file.Memory = None

-- a stop of reading by name, as one at that file
abbrev pub unread_stop : NamedStop → FileStop
unread_stop (named.Unread unread) = file.Refused (Unread unread)
unread_stop named.Fault = file.Fault
unread_stop named.Memory = file.Memory

-- a stop of a reader, as one at its file
abbrev pub grammar_stop : DirStop → FileStop
grammar_stop (dir.Fault fault) = file.Refused (Grammar fault)
grammar_stop dir.Memory = file.Memory

-- a stop of compiling, as one of loading
abbrev pub compile_stop : CompileStop → LoadStop
compile_stop (compile.Fault kind name) = Refused (Parts kind name)
compile_stop compile.Memory = Memory

-- a stop at the file of this name, as one of loading; there may be no memory for the name
abbrev pub IsStopAtFile : Octets → FileStop → LoadStop → Type 0
IsStopAtFile name (file.Refused fault) (Refused refusal) = refusal ≡ File name fault
IsStopAtFile name (file.Refused fault) Fault = ⊥
IsStopAtFile name (file.Refused fault) Memory = Unit {0}
IsStopAtFile name file.Fault stop = stop ≡ Fault
IsStopAtFile name file.Memory stop = stop ≡ Memory

-- a stop in the store of this name, as one of loading; there may be no memory for the name
abbrev pub IsStopIn : Octets → StoreStop → LoadStop → Type 0
IsStopIn name (store.Fault at) (Refused refusal) = refusal ≡ Store name at
IsStopIn name (store.Fault at) Fault = ⊥
IsStopIn name (store.Fault at) Memory = Unit {0}
IsStopIn name store.Memory stop = stop ≡ Memory
