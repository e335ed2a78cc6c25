-- What a source in memory gives.
use Rattle.std.specs.Prelude.{◌≡◌, ◌==◌, ℕ, [], length, min, drop, if◌then◌else◌, Vec}
use Rattle.std.specs.declared.alloc.Global.{Global}
use Rattle.edi_tables.specs.Octets.{Octets}
use Rattle.edi_ports.specs.declared.source.Taken.{Taken}
use Rattle.edi_ports.specs.declared.source.Taken.TheVariants.{Got, End, Failed}
use Rattle.edi_ports.specs.declared.memory.source.MemSource.{MemSource}
use Rattle.edi_ports.specs.Memory.{first_calls, fails_next, after_call}

-- the octets that are left
abbrev pub rest_of : MemSource → Octets
rest_of source = drop source.from source.octets.items

-- how often it failed
abbrev pub faults_of : MemSource → ℕ
faults_of source = source.calls.faults

-- no call of it is to fail
abbrev pub IsSteady : MemSource → Type 0
IsSteady source = source.calls.failing.items ≡ []

-- the next take with a buffer of this size: a fault where it is to fail, the end, or as many octets as it may give
abbrev pub taken_next : MemSource → ℕ → Taken
taken_next source size =
    if fails_next source.calls then Failed
    else (if length (rest_of source) == 0 then End else Got (min (min (length (rest_of source)) source.most) size))

-- one more call is counted, and the most that a call gives stays
abbrev pub IsNextCall : MemSource → MemSource → Type 0
IsNextCall before now = (now.calls ≡ after_call before.calls) × (now.most ≡ before.most)

-- before its first call: at most so many octets a call, and these calls are to fail
abbrev pub IsMade : ℕ → Vec ℕ Global → MemSource → Type 0
IsMade most failing source = (source.most ≡ most) × (source.calls ≡ first_calls failing)
