-- What a sink in memory takes.
use Rattle.std.specs.Prelude.{◌≡◌, ◌≤◌, ◌+◌, ◌-◌, ◌==◌, ℕ, [], length, min, if◌then◌else◌, Vec}
use Rattle.std.specs.declared.alloc.Global.{Global}
use Rattle.edi_tables.specs.Octets.{Octets}
use Rattle.edi_ports.specs.declared.sink.Put.{Put}
use Rattle.edi_ports.specs.declared.sink.Put.TheVariants.{Took, Failed}
use Rattle.edi_ports.specs.declared.memory.sink.MemSink.{MemSink}
use Rattle.edi_ports.specs.declared.memory.calls.Calls.{Calls}
use Rattle.edi_ports.specs.Memory.{first_calls, fails_next, after_call, after_fault}

-- the octets that were put
abbrev pub held_of : MemSink → Octets
held_of sink = sink.octets.items

-- how often it failed
abbrev pub faults_of : MemSink → ℕ
faults_of sink = sink.calls.faults

-- it has room for n octets, and no call of it is to fail
abbrev pub HasRoom : MemSink → ℕ → Type 0
HasRoom sink n = (sink.calls.failing.items ≡ []) × (length (held_of sink) + n ≤ sink.room)

-- as many octets of a part of this length as it takes in one call
abbrev pub taken_of : MemSink → ℕ → ℕ
taken_of sink size = min (min size sink.most) (sink.room - length (held_of sink))

-- the next put of a part of this length: a fault where it is to fail or has no room, or as many octets as it takes
abbrev pub put_next : MemSink → ℕ → Put
put_next sink size =
    if fails_next sink.calls then Failed else (if taken_of sink size == 0 then Failed else Took (taken_of sink size))

-- the calls after one more, with a part of this length: it fails where it is to fail, and where no room is left
abbrev pub calls_after : MemSink → ℕ → Calls
calls_after before size =
    let counted : Calls = after_call before.calls in
    if fails_next before.calls then counted else (if taken_of before size == 0 then after_fault counted else counted)

-- one more call is counted; the room and the most that a call takes stay
abbrev pub IsNextCall : MemSink → MemSink → ℕ → Type 0
IsNextCall before now size =
    (now.calls ≡ calls_after before size) × (now.room ≡ before.room) × (now.most ≡ before.most)

-- before its first call: room for so many octets, at most so many a call, and these calls are to fail
abbrev pub IsMade : ℕ → ℕ → Vec ℕ Global → MemSink → Type 0
IsMade room most failing sink = (sink.room ≡ room) × (sink.most ≡ most) × (sink.calls ≡ first_calls failing)
