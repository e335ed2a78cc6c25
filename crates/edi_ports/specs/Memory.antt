-- Objects in memory: which of their calls fail, and what the others give.
use Rattle.std.specs.Prelude.{◌==◌, ℕ, Bool, Vec, if◌then◌else◌}
use Rattle.std.specs.declared.alloc.Global.{Global}
use Rattle.std.specs.List.{list_any}
use Rattle.edi_ports.specs.declared.memory.calls.Calls.{Calls}
use Rattle.edi_ports.specs.Faults.{one_more}

-- before the first call, where these are to fail
abbrev pub first_calls : Vec ℕ Global → Calls
first_calls failing = record { failing = failing; made = 0; faults = 0 }

-- the next call is one that fails
abbrev pub fails_next : Calls → Bool
fails_next calls = list_any (λ call. call == calls.made) calls.failing.items

-- after a fault
abbrev pub after_fault : Calls → Calls
after_fault calls = record calls { faults = one_more calls.faults }

-- after the next call
abbrev pub after_call : Calls → Calls
after_call calls =
    let made : Calls = record calls { made = one_more calls.made } in
    if fails_next calls then after_fault made else made
