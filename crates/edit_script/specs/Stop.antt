-- Why no command was read.
use Rattle.std.specs.Prelude.{ℕ}
use Rattle.edit_script.specs.declared.stop.ScriptStop.{ScriptStop}
use Rattle.edit_script.specs.declared.stop.ScriptStop.TheVariants as stop
use Rattle.edit_script.specs.declared.stop.Halt.{Halt}
use Rattle.edit_script.specs.declared.stop.Halt.TheVariants as halt

-- the stop that ending a part of a command so is in the command of that number
abbrev pub script_stop_of : ℕ → Halt → ScriptStop
script_stop_of number halt.Bad = stop.BadLine number
script_stop_of number halt.Cut = stop.CutShort number
script_stop_of number halt.TooLong = stop.TooLong
script_stop_of number halt.Fault = stop.Fault
script_stop_of number halt.Memory = stop.Memory
