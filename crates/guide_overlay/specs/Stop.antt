-- What a stop tells.
use Rattle.std.specs.Prelude.{Option, Some, None}
use Rattle.guide_overlay.specs.declared.stop.GuideStop.{GuideStop}
use Rattle.guide_overlay.specs.declared.stop.GuideStop.TheVariants.{Fault, Memory}
use Rattle.guide_overlay.specs.Guide.{GuideFault}

-- the fault that a stop tells; want of memory tells none
abbrev pub fault_in : GuideStop → Option GuideFault
fault_in (Fault line kind) = Some (record { line = line; kind = kind })
fault_in Memory = None
