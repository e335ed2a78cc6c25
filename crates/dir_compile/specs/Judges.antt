-- What a judge of some of the parts answers, for bodies.
use Rattle.std.specs.Prelude.{◌≡◌, List, [], ◌++◌, Some, IfSome, slice_get, Result, Ok, Err}
use Rattle.dir_compile.specs.Stop.{PartsFault, fault_in}
use Rattle.dir_compile.specs.declared.parts.Parts.{Parts}
use Rattle.dir_compile.specs.declared.stop.CompileStop.{CompileStop}
use Rattle.dir_compile.specs.Compile.{list_faults, composite_faults, segment_faults, message_faults}

-- a stop reports the first of these faults, unless memory ran out
abbrev pub IsFirstFault : CompileStop → List PartsFault → Type 0
IsFirstFault stop faults = IfSome (fault_in stop) (λ fault. slice_get faults 0 ≡ Some fault)

-- what was answered is Ok exactly where there is no fault, else the first one, unless memory ran out
abbrev pub Judges : {A : Type 0} → Result A CompileStop → List PartsFault → Type 0
Judges (Ok x) faults = faults ≡ []
Judges (Err stop) faults = IsFirstFault stop faults

-- the faults of definitions that name others, and of tags, names and rows that no directory has
abbrev pub reference_faults : Parts → List PartsFault
reference_faults parts = list_faults parts ++ composite_faults parts ++ segment_faults parts ++ message_faults parts
